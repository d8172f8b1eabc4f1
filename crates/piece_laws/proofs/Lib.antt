pub mod Growing
pub mod When
pub mod Produced
pub mod Cuts
pub mod Reached
pub mod Later
pub mod InBytes
pub mod OneOutcome
