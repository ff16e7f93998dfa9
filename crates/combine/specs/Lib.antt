-- The root of combine's specs.
pub mod Settled
pub mod Acts
pub mod Groups
