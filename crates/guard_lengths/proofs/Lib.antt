-- The laws of guard_lengths that belong to no one function.
pub mod Parts
