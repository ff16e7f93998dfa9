-- The root of hash's specs.
pub mod Hash
