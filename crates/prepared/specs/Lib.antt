pub mod Layout
pub mod inner
