pub mod Fields
pub mod Steps
pub mod Message
pub mod Answers
pub mod RoundTrip
pub mod Inner
