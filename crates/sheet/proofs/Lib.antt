pub mod Chosen
pub mod Faulty
pub mod Fill
mod Named
pub mod Placed
pub mod Theorems
