mod Bytes
mod Twenty
pub mod Reading
pub mod Unchanged
pub mod Needed
