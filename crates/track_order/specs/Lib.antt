pub mod Order
pub mod Card
pub mod Moved
