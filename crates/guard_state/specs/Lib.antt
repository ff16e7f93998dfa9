-- The root of guard_state's specs.
pub mod State
