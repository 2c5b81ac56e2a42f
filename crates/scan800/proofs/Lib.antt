pub mod Gathering
pub mod Deciding
pub mod Passing
