-- The laws of reset that belong to no one function.
pub mod Kept
pub mod Cases
