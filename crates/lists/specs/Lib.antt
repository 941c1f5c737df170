pub mod Find
pub mod Fold
pub mod Front
pub mod Build
pub mod Order
pub mod Each
pub mod Grid
