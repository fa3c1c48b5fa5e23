pub mod Pixels
