pub mod CosPi
pub mod Odd
pub mod Quadrants
pub mod SinPi
pub mod TanPi
