pub mod Links
pub mod Climbing
pub mod Lowest
pub mod Freed
