pub mod Delivery
