pub mod Played
pub mod Turned
