pub mod Bytes
pub mod Fitting
pub mod Lines
pub mod Laid
pub mod Reading
pub mod Theorems
