-- The laws of the parameters that act at once.
pub mod Kept
