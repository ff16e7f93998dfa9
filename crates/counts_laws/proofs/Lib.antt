-- The laws of grey counts.
pub mod Sum
