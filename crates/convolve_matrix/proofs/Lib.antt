pub mod Numbered
pub mod Edging
pub mod Orders
pub mod Reading
mod InOrder
pub mod WithinAlpha
pub mod Unchanged
pub mod Needed
mod Widening
mod Tested
mod Summing
mod Finishing
