pub mod Rows
pub mod OneAnswer
pub mod Arguments
pub mod Products
