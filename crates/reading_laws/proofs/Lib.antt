-- The laws of a read.
pub mod Kept
