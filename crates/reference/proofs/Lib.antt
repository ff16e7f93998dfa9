-- The laws of reference that belong to no one function.
pub mod Ranges
