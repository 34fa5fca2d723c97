pub mod Effect
pub mod Strips
pub mod Sweeps
pub mod Cut
pub mod Put
