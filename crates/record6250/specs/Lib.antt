pub mod Track
pub mod Tape
pub mod Record
pub mod Written
pub mod Picture
pub mod Group
pub mod Read
pub mod Fits
