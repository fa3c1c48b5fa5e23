mod Differences
pub mod Leans
mod Widening
pub mod Rules
pub mod Tilts
