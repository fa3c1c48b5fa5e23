pub mod Numbered
pub mod Windows
pub mod Reading
mod Signed
mod Merging
mod Spreading
mod Passes
pub mod Bounds
pub mod Unchanged
pub mod Needed
