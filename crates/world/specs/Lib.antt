-- The root of world's specs.
pub mod World
