pub mod DisplacementMap
pub mod Numbered
pub mod Reads
pub mod Inner
