-- The root of parameter's specs.
pub mod Parameter
