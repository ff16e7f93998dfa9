-- Laws of bench that belong to no one function.
pub mod Passed
pub mod Decoded
pub mod Runs
pub mod KindNumbers
