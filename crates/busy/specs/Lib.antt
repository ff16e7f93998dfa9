-- The root of busy's specs.
pub mod Busy
