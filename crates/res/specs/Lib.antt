-- The root of res's specs.
pub mod Line
