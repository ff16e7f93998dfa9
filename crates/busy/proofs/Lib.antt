-- The laws of busy that belong to no one function.
pub mod Deadlines
