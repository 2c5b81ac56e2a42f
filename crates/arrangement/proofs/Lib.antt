pub mod Found
pub mod Wrong
