-- The laws of read_register.
pub mod Bytes
