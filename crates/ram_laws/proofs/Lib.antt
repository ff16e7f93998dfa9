-- The laws of the RAM.
pub mod Cells
pub mod Tens
