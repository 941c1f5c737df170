pub mod Frac
pub mod Number
pub mod Weight
