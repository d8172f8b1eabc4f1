pub mod Answered
pub mod Longest
pub mod Outcome
