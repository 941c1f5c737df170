pub mod Exponential
pub mod Near
pub mod Answer
pub mod Parts
