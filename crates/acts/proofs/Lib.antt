-- The laws of acts that belong to no one function.
pub mod Cases
