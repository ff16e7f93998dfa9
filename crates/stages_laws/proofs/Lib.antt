-- The laws of the stages.
pub mod Kept
