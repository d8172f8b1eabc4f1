pub mod AcosPi
pub mod AsinPi
pub mod AtanPi
