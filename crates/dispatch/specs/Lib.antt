-- The root of dispatch's specs.
pub mod Dispatch
