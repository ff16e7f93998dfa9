-- What the contracts of glass_tables cite.
pub mod Moves
pub mod Greys
