-- The root of waveform_laws' specs.
pub mod Total
