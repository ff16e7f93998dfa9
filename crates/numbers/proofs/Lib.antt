-- The laws that every crate's proofs cite.
pub mod Lin
pub mod Hold
pub mod Quot
pub mod Fields
pub mod Cases
pub mod Painted
pub mod Scattered
pub mod Every
pub mod Miss
