-- Laws of voltage_shift that belong to no one function.
pub mod Sums
pub mod Listed
pub mod Steps
