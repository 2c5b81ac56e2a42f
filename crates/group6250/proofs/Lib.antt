pub mod Bytes
pub mod Exchange
pub mod Packed
pub mod Generator
