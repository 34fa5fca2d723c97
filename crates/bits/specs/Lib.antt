pub mod Bit
pub mod Below
pub mod Update
pub mod Stride
pub mod RoleSet
pub mod Gather
