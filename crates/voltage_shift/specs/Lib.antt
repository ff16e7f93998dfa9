-- The root of voltage_shift's specs.
pub mod Shift
pub mod Bounds
