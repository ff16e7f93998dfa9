-- The root of pgm's proofs.
pub mod Headers
pub mod Starts
pub mod Parts
pub mod Numbers
pub mod Answers
