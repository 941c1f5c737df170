pub mod Table
pub mod Lowest
pub mod First
pub mod Answer
pub mod Figures
pub mod Asked
pub mod Bare
