pub mod Number
pub mod First
pub mod Figures
pub mod Limits
pub mod Table
