-- The root of walk's specs.
pub mod Ready
