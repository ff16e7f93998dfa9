-- The root of listing's proofs.
pub mod Joined
pub mod Lengths
