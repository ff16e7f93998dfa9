-- The root of listing's specs.
pub mod Listing
