-- The laws of start that belong to no one function.
pub mod Cases
