pub mod Functions
pub mod ComponentTransfer
pub mod Reads
pub mod Inner
