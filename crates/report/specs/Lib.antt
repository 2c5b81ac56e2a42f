pub mod Report
pub mod Made
