pub mod Calls
pub mod Joined
