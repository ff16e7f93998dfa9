-- The laws of clock that belong to no one function.
pub mod Cases
pub mod Kept
pub mod Arrived
