pub mod Numbered
pub mod Contents
pub mod Tests
