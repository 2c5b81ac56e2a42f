pub mod Words
pub mod Body
pub mod Stored
