pub mod Complete
pub mod Same
pub mod Pairs
pub mod Reading
