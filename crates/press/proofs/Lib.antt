pub mod Table
pub mod Misfits
pub mod Asking
pub mod Errors
pub mod Laws
pub mod Acting
