-- The root of traffic's specs.
pub mod Traffic
