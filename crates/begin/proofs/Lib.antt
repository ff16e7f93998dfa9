-- The laws of begin that belong to no one function.
pub mod Cases
