pub mod Apart
pub mod Listed
pub mod Passed
pub mod Retold
