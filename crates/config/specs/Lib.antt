-- The root of config's specs.
pub mod Temperature
pub mod Mode
pub mod Defaults
pub mod Lowest
pub mod Answer
pub mod Tests
