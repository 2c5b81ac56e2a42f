pub mod Short
pub mod Came
pub mod Answered
pub mod Steps
pub mod State
