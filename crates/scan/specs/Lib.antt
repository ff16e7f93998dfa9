-- The root of scan's specs.
pub mod Luts
