-- The laws of gates and rows.
pub mod OneToOne
