-- The laws of gates.
pub mod Rows
pub mod Stored
