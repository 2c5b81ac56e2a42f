pub mod Corrected
pub mod Judging
