pub mod Stored
pub mod Logged
