mod Bytes
pub mod Reading
pub mod Unchanged
pub mod Needed
