-- The root of start's specs.
pub mod Start
