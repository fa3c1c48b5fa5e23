pub mod Demands
pub mod Slots
pub mod Call
pub mod Reach
pub mod Inner
