-- The root of finish's specs.
pub mod Refresh
pub mod Moves
