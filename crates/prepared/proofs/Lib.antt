pub mod Begun
pub mod Cells
pub mod Counted
