-- The root of voltage's specs.
pub mod Codes
