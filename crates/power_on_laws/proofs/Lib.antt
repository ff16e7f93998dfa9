-- The laws of an accepted start.
pub mod First
pub mod Accepted
