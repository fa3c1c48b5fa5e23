mod Passes
mod LitRows
mod Halves
pub mod Reading
pub mod WithinAlpha
pub mod Needed
