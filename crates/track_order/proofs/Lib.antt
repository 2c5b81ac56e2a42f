pub mod Order
pub mod Card
pub mod Rows
pub mod Moved
pub mod Restored
pub mod Example
