-- The laws of chip that belong to no one function.
pub mod Cases
