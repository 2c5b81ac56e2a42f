pub mod Record
pub mod Written
pub mod Read
pub mod Fits
