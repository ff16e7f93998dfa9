-- The root of counts' specs.
pub mod Counts
pub mod Tables
