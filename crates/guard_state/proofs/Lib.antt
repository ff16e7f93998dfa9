-- The laws of guard_state that belong to no one function.
pub mod Periods
pub mod Parts
