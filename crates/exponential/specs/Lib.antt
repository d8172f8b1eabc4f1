pub mod Ends
pub mod Exp
pub mod Exp2
