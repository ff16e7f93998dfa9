-- The root of line's specs.
pub mod Fields
pub mod Lines
