-- The law of one cut.
pub mod Cut
