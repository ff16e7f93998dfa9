-- The laws of the master activation.
pub mod Parts
pub mod Timed
