-- The laws of otp that belong to no one function.
pub mod Bytes
pub mod Search
pub mod Found
