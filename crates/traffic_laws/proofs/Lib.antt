-- The laws of traffic_laws.
pub mod Events
pub mod Contracts
