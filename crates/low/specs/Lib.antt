-- The root of low's specs.
pub mod Command
