-- The root of gates' specs.
pub mod Gates
