-- The root of activation's specs.
pub mod Display
pub mod Activation
