-- The laws of burst.
pub mod Cases
pub mod Running
