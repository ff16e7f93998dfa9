-- The laws of the data bytes.
pub mod Kept
