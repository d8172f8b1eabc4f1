pub mod Logarithms
