pub mod Order
pub mod Readings
pub mod Above
pub mod Ends
pub mod Exactly
pub mod Cover
pub mod Compared
pub mod Mirror
