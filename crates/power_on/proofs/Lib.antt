-- The laws of power_on that belong to no one function.
pub mod Cases
pub mod Accepted
pub mod Refused
