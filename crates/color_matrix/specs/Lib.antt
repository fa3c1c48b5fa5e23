pub mod Rows
pub mod Coefficients
pub mod ColorMatrix
pub mod Reads
pub mod Inner
