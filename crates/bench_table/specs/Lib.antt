pub mod Letters
pub mod Designs
pub mod Table
pub mod Readings
pub mod Faults
pub mod Marked
pub mod Dilute
