pub mod Arguments
pub mod Reading
pub mod Picture
