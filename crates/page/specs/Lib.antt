pub mod Ascii
pub mod Page
