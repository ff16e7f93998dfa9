-- The root of power_on's specs.
pub mod Start
