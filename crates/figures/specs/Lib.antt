-- The root of figures' specs.
pub mod ModeTwo
pub mod Figures
pub mod Listing
