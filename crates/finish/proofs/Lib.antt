-- Laws of finish that belong to no one function.
pub mod Drives
pub mod Moves
pub mod Steps
