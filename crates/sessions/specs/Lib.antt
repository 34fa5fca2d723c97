pub mod Lesser
pub mod Settled
