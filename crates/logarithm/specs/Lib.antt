pub mod Logarithm
pub mod Figure
pub mod Near
pub mod Answer
