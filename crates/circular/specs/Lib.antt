pub mod Quadrants
pub mod SinPi
pub mod CosPi
pub mod TanPi
