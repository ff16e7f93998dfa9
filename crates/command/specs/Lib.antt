-- The root of command's specs.
pub mod Table
