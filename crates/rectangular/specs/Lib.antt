pub mod Constants
pub mod Group
pub mod Syndrome
pub mod Correction
pub mod Relied
