pub mod Answers
pub mod Tabulated
pub mod Places
pub mod Filling
pub mod Mapping
pub mod Strips
pub mod Contracts
pub mod Apart
