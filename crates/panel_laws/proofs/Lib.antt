-- The laws of the glass.
pub mod Start
pub mod Exactly
