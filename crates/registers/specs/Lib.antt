-- The root of registers' specs.
pub mod Store
pub mod Reset
pub mod Read
