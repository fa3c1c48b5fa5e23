mod Each
pub mod Ranges
