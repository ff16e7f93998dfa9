-- The root of picture_laws' specs.
pub mod PanelFile
