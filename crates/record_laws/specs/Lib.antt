-- The root of record_laws' specs.
pub mod Recorded
