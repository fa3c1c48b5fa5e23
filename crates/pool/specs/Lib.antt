pub mod Pool
