pub mod Leading
pub mod Ln
pub mod Log2
