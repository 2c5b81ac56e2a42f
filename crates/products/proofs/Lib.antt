pub mod Check
pub mod Matrix
