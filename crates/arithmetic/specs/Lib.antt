pub mod Operations
pub mod Sizes
