pub mod Reading
pub mod Call
pub mod Terms
pub mod Starred
