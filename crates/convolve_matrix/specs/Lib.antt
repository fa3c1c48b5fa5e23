pub mod Edges
pub mod ConvolveMatrix
pub mod Numbered
pub mod Reads
pub mod Inner
