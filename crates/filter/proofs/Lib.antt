pub mod Works
pub mod Acting
pub mod Accepted
pub mod Isolation
pub mod Reaching
pub mod Running
pub mod Demands
pub mod Example
