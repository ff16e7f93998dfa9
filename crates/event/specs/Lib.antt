-- The root of event's specs.
pub mod Events
