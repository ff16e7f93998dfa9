-- The laws of approximation.
pub mod Approximations
