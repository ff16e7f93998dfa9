-- Laws of bench_device that belong to no one function.
pub mod Events
