-- Laws of glass that belong to no one function.
pub mod Grey
pub mod Compose
pub mod Exactly
