-- The laws of registers.
pub mod Bounds
