pub mod Answer
pub mod Size
pub mod Tabulate
pub mod Pixel
pub mod Contract
pub mod Inner
