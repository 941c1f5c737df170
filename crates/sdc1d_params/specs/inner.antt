-- What contracts of inner functions are stated by. No public call is.
pub mod Cells
pub mod Scaffold
pub mod Set
pub mod Checked
pub mod Placed
