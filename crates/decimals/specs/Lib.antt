pub mod Digits
pub mod Number
pub mod ReadCases
pub mod Print
pub mod PrintCases
pub mod Nearest
pub mod Back
