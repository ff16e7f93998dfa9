-- The laws of res that belong to no one function.
pub mod Cases
