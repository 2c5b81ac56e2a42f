pub mod Turned
pub mod Legal
pub mod Marked
