-- The root of calls' specs.
pub mod World
pub mod Sound
