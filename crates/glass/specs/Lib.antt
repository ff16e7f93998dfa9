-- The root of glass's specs.
pub mod Optics
pub mod Transfers
pub mod Greys
pub mod Exact
