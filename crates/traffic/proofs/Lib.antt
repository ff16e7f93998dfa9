-- The root of traffic's proofs.
pub mod Feeding
pub mod Burst
