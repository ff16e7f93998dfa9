-- The laws of listed.
pub mod Masks
