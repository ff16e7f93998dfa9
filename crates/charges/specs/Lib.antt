-- The root of charges' specs.
pub mod Charge
pub mod Report
