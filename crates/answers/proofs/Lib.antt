pub mod Found
pub mod Tries
pub mod Refusals
pub mod Used
