pub mod Wider
pub mod Places
pub mod OneAnswer
