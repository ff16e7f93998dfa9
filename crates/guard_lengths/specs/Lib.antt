-- The root of guard_lengths' specs.
pub mod Lengths
