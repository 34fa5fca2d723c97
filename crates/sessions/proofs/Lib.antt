pub mod Looked
pub mod Reached
mod Sifted
mod Dropping
mod Settling
mod Found
