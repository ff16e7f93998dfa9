-- The root of auto_write's specs.
pub mod Auto
