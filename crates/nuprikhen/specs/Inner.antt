pub mod Numbered
pub mod Mapped
pub mod Transfers
pub mod Recipes
