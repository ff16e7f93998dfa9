-- The laws of guard that belong to no one function.
pub mod WithTable
