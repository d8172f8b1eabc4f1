pub mod Differences
pub mod Comparison
pub mod Walk
