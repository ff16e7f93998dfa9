-- The laws of scan.
pub mod Pixels
