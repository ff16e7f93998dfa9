-- The laws that the proofs of counts share.
pub mod Occurs
pub mod Quads
pub mod Tables
