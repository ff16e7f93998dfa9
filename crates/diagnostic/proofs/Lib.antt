-- The laws of diagnostic.
pub mod Over
pub mod Kept
