pub mod Roots
pub mod Rows
pub mod OneAnswer
