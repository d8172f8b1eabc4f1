pub mod Functions
pub mod Points
pub mod TwoPoints
pub mod SidedPoints
