-- The root of shift_report's proofs.
pub mod Lengths
pub mod Hex
