-- Laws of combine that belong to no one function.
pub mod Powers
pub mod Unique
pub mod Phases
pub mod Bytes
