-- The laws of charges that belong to no one function.
pub mod Sums
pub mod Bounds
pub mod Answers
pub mod Luts
pub mod Lines
