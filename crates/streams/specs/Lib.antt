pub mod Message
pub mod Ended
pub mod Bytes
