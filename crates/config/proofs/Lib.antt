-- The laws of config that belong to no one function.
pub mod Registers
pub mod Lowest
pub mod Answers
pub mod Modes
