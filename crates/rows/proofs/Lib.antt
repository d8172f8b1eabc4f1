pub mod Products
pub mod Horner
pub mod Whole
pub mod Sizes
pub mod Signs
pub mod Straight
pub mod Sweep
