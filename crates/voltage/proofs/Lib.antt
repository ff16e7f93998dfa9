-- The laws of voltage that belong to no one function.
pub mod Lines
