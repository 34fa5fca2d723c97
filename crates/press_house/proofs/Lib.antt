pub mod Cases
pub mod Through
pub mod Journal
