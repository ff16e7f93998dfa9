-- The root of burst's specs.
pub mod Running
pub mod Burst
