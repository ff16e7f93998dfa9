-- The root of sheet_text's specs.
pub mod Text
pub mod Reading
pub mod Answer
