-- The root of reset_laws' specs.
pub mod Cut
