pub mod Order
pub mod Outcome
pub mod Parts
pub mod Calls
pub mod SameLimit
