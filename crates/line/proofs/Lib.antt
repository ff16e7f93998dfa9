-- The root of line's proofs.
pub mod Within
