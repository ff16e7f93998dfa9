-- The checked figures.
pub mod ModeTwo
pub mod Figures
pub mod Listing
