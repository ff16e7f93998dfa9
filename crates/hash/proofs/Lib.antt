-- The root of hash's proofs.
pub mod Laws
