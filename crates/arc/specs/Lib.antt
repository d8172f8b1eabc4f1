pub mod AtanPi
pub mod Root
pub mod AsinPi
pub mod AcosPi
