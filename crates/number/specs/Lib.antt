pub mod Number
pub mod Words
pub mod Values
pub mod Inner
