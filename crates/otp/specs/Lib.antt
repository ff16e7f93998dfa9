-- The root of otp's specs.
pub mod Table
pub mod Search
pub mod Waveform
