-- The root of waveform's specs.
pub mod Voltages
pub mod Setting
pub mod Phases
pub mod Duration
pub mod Walks
pub mod Exact
