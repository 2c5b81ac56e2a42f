pub mod Union
pub mod Above
pub mod Turned
