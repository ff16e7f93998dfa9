-- Laws of walk that belong to no one function.
pub mod Made
pub mod Within
