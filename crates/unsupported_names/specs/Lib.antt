-- The root of unsupported_names' specs.
pub mod Names
