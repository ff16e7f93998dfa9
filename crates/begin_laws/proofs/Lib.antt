-- The laws of the command byte.
pub mod Kept
