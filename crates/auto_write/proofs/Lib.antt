-- The laws of auto_write.
pub mod Checkerboard
