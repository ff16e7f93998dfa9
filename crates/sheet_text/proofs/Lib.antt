-- Laws that several proofs cite.
mod Values
mod Differ
mod Lengths
