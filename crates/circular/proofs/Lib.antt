pub mod Waves
pub mod Rows
pub mod OneAnswer
