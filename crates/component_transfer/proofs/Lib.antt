pub mod Passed
mod Cases
mod Bytes
pub mod Reading
pub mod Unchanged
pub mod Needed
pub mod ModuleEntry
