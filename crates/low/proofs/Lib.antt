-- The laws of low that belong to no one function.
pub mod Cases
