-- The root of approximation's specs.
pub mod Approximation
