-- The root of guard's specs.
pub mod Refusals
