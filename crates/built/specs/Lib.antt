pub mod Fits
pub mod Order
pub mod Bench
pub mod Twice
