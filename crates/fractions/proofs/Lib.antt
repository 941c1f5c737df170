pub mod Frac
pub mod Within
