pub mod Booleans
pub mod Below
pub mod Bit
pub mod Update
pub mod Stride
pub mod Roles
pub mod Gather
mod Lowest
mod Each
pub mod Sizes
