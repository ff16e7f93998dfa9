-- The root of guard_kinds' specs.
pub mod Kinds
