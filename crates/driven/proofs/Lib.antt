-- The laws of driven that belong to no one function.
pub mod Cases
