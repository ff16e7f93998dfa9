-- The root of column's specs.
pub mod Columns
pub mod Reading
