-- The laws of guard_kinds that belong to no one function.
pub mod SameKind
