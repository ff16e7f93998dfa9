-- The words that every crate's definitions share.
pub mod Saturation
pub mod Choice
pub mod Lists
pub mod Rows
