pub mod Words
pub mod Parameters
pub mod Tally
pub mod Answers
pub mod Lists
