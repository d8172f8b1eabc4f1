pub mod Sections
pub mod Order
