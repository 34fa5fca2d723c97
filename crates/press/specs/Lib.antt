pub mod Stages
pub mod Acted
pub mod Errors
pub mod Floor
pub mod Laws
pub mod Contract
