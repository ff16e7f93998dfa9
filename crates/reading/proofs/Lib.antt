-- The laws of reading that belong to no one function.
pub mod Cases
