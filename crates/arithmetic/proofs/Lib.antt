pub mod Exact
pub mod Opposites
pub mod Laws
