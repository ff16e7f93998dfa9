-- The laws of stages that belong to no one function.
pub mod Cases
