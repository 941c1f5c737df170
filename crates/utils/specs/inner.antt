pub mod Tables
pub mod Code
