-- The root of gates_laws' specs.
pub mod OneToOne
