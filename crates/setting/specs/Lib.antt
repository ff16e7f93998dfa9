-- The root of setting's specs.
pub mod Word
