-- The root of panel's specs.
pub mod Border
pub mod End
pub mod Start
pub mod Pixels
pub mod Finish
