pub mod Surface
pub mod Inner
