-- The root of device's specs.
pub mod Parts
pub mod Kinds
