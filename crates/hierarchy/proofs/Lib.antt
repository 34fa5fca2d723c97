pub mod Links
pub mod Rows
mod Sizes
mod Freed
mod Acyclicity
mod Slide
mod Climbing
mod One
mod Searching
