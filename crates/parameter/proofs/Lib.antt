-- The laws of parameter that belong to no one function.
pub mod Cases
pub mod Kept
