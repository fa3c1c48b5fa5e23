pub mod States
pub mod Seeds
mod Exchange
pub mod Permuted
mod Lowered
pub mod Filled
mod Made
mod Draws
pub mod Entries
mod Nearest
mod Settled
pub mod Reading
pub mod Bounded
pub mod Positions
mod Octaves
mod Columns
mod Bytes
mod Points
