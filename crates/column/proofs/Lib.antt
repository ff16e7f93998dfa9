-- The root of column's proofs.
pub mod Symbols
pub mod Fronts
pub mod Gathered
pub mod Reading
