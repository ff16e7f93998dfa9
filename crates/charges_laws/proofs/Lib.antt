-- The theorems of the charge.
pub mod Fits
pub mod Worst
