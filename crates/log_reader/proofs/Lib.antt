pub mod Standing
pub mod Spare
pub mod Suits
