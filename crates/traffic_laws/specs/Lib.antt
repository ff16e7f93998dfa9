-- The root of traffic_laws' specs.
pub mod Events
pub mod Claims
