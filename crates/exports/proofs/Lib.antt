mod Tabled
pub mod ByLogarithms
