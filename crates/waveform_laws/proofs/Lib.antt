-- The laws of a waveform.
pub mod Decoded
pub mod Joined
pub mod Products
pub mod Range
pub mod Steps
pub mod Stepped
pub mod Exactly
pub mod Monotone
pub mod Lasting
