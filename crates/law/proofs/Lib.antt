pub mod Inside
pub mod Rows
pub mod Allowed
pub mod Sessions
pub mod Conditions
pub mod Support
pub mod Ordered
pub mod Whole
