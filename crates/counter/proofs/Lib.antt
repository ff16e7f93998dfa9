-- The laws of counter.
pub mod Steps
