-- The laws of wait that belong to no one function.
pub mod Cases
