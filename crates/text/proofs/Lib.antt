-- The root of text's proofs.
pub mod Laws
