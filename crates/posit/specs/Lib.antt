pub mod Number
pub mod Rounding
pub mod Sides
pub mod Answer
pub mod Decoding
