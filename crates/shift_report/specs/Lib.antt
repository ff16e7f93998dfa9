-- The root of shift_report's specs.
pub mod Report
pub mod Words
