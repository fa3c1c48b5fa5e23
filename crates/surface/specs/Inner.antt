pub mod Leans
pub mod Rows
