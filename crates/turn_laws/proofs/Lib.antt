pub mod Checked
pub mod Still
pub mod Nars
