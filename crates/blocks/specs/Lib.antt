pub mod Conversions
pub mod Words
