pub mod Failure
pub mod Came
