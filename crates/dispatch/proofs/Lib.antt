-- The laws of dispatch that belong to no one function.
pub mod Bytes
