-- The laws of store.
pub mod Unwritten
