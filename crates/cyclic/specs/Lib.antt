pub mod Constants
pub mod Step
