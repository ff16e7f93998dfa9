-- The laws of calls: what every call keeps.
pub mod Parts
pub mod Accepted
pub mod Line
pub mod Kept
pub mod Start
pub mod Clock
pub mod Activated
pub mod Begun
pub mod Written
pub mod Held
pub mod Runs
