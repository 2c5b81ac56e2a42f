pub mod Number
pub mod Line
