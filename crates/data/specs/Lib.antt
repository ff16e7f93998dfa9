-- The root of data's specs.
pub mod Data
pub mod Stream
