pub mod Rays
pub mod Pixels
pub mod Rows
