-- The laws of data that belong to no one function.
pub mod Cases
pub mod Taken
