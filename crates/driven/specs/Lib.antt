-- The root of driven's specs.
pub mod Read
