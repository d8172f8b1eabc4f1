pub mod Floor
pub mod Rows
