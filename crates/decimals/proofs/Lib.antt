pub mod Written
pub mod Room
pub mod Worth
pub mod Patterns
pub mod Fixed
pub mod Sizes
pub mod Nearness
pub mod Back
