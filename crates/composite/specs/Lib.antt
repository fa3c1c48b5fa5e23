pub mod Arithmetic
pub mod Composite
pub mod Reads
pub mod Inner
