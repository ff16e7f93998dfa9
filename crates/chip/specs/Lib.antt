-- The root of chip's specs.
pub mod Close
pub mod Report
