-- The root of reference's specs.
pub mod Reference
