pub mod Names
pub mod Lent
pub mod Numbers
pub mod Spelled
pub mod Calls
pub mod Laws
pub mod inner
