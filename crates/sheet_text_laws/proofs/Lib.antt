-- The laws of a sheet's text.
mod Holds
mod Signs
mod Places
pub mod Text
pub mod Fits
