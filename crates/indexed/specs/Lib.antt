pub mod List
pub mod Test
pub mod Differ
