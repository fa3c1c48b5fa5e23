pub mod Vectors
pub mod Light
pub mod Lighting
pub mod Reads
pub mod Inner
