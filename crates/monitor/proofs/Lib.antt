pub mod Starting
pub mod Calling
