pub mod Distance
mod Bytes
pub mod Numbered
mod Rows
mod StepCount
pub mod Reading
pub mod Unchanged
pub mod Needed
