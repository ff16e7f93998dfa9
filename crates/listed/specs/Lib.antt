-- The root of listed's specs.
pub mod Listed
