-- The root of begin's specs.
pub mod Begin
