pub mod Leading
pub mod Sweeps
pub mod Rows
pub mod OneAnswer
