mod Bytes
pub mod Padding
pub mod Within
