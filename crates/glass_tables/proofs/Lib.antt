-- Laws of glass_tables that belong to no one function.
pub mod Found
pub mod Moved
