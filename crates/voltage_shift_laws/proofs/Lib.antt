-- The laws of a change of voltage.
pub mod Apart
pub mod Steps
pub mod Paired
pub mod Levels
pub mod Settings
pub mod Sensitivity
pub mod Answered
pub mod Example
