-- The root of power_on_laws' specs.
pub mod First
