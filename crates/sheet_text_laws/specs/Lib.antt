-- The root of sheet_text_laws' specs.
pub mod Fits
