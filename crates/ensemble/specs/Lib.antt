pub mod Layout
pub mod Lends
pub mod Ring
pub mod inner
