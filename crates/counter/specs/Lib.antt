-- The root of counter's specs.
pub mod Counter
pub mod Registers
