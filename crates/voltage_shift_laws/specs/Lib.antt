-- The root of voltage_shift_laws' specs.
pub mod Settings
pub mod Claims
