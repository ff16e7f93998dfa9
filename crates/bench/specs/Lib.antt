-- The root of bench's specs.
pub mod Asked
pub mod Made
pub mod Runs
