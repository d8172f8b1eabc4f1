pub mod Known
pub mod Whole
pub mod Back
pub mod Counts
pub mod Sound
pub mod Reading
pub mod Given
pub mod Growing
