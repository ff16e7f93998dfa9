-- The root of history's specs.
pub mod Reckon
pub mod Runs
pub mod Claims
pub mod History
pub mod Reports
