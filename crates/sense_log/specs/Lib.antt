pub mod Pair
pub mod Log
pub mod Back
pub mod Written
