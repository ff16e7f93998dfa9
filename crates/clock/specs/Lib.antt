-- The root of clock's specs.
pub mod Advance
