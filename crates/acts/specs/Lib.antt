-- The root of acts' specs.
pub mod Reserved
pub mod Acts
