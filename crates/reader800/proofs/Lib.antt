pub mod Delivered
pub mod Answering
