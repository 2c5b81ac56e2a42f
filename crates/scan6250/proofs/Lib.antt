pub mod Scanned
pub mod Padded
pub mod Whole
