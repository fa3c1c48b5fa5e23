pub mod Index
pub mod Lookup
