-- The root of reading's specs.
pub mod Reading
