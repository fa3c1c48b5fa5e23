mod Calls
mod Mapping
mod Functions
mod Naming
mod Selectors
mod Lights
pub mod Recipes
