-- The root of charges_laws' specs.
pub mod Worst
