-- The root of query's specs.
pub mod Outcome
pub mod Queries
