pub mod Masking
pub mod Sweeping
pub mod Relied
pub mod Taken
pub mod Swept
pub mod Cutting
pub mod Putting
pub mod Acts
mod Settling
mod Plain
