pub mod Numbered
pub mod Extremum
pub mod Morphology
pub mod Reads
pub mod Inner
