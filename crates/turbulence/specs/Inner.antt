pub mod Places
pub mod Rows
pub mod Columns
pub mod Sums
pub mod Levels
pub mod Drawn
