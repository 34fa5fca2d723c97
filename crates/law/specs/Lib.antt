pub mod Stray
pub mod Supported
