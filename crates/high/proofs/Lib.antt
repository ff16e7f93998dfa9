-- The laws of high that belong to no one function.
pub mod Cases
