pub mod SoFar
pub mod Kept
