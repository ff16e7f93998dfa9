-- The laws of activation that belong to no one function.
pub mod Cases
pub mod Kept
