pub mod Or
pub mod Turned
