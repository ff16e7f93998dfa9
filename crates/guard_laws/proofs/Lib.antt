-- The laws of the refusals.
pub mod Joined
pub mod Accepted
pub mod Kept
pub mod Started
