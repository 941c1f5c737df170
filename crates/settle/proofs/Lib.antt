pub mod Refusing
pub mod Said
pub mod Shown
pub mod Taken
