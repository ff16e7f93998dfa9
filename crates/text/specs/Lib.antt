-- The root of text's specs.
pub mod Text
