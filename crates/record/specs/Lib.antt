pub mod Decoded
pub mod Padding
pub mod Encoded
