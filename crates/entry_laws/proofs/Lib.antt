-- The laws that the entry points share.
pub mod Passed
