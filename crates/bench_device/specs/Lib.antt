-- The root of bench_device's specs.
pub mod Whole
