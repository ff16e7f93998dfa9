-- The root of wait's specs.
pub mod Wait
