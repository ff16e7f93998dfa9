-- The root of panel_laws' specs.
pub mod Exactly
