-- The root of high's specs.
pub mod Data
