-- The root of ram's specs.
pub mod Plane
