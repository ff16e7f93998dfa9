-- The laws of query that belong to no one function.
pub mod Cases
