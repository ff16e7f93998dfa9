-- The root of reset's specs.
pub mod Reset
