-- The root of diagnostic's specs.
pub mod Record
pub mod Log
pub mod Power
