-- The laws of device.
pub mod ByKind
