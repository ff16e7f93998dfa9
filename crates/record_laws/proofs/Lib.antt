-- The laws of the record of the waveform loaded.
pub mod Registers
pub mod Loaded
pub mod Activated
pub mod Begun
pub mod Data
pub mod Read
