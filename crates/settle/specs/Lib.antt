pub mod Places
pub mod Told
pub mod Searches
pub mod Encoding
pub mod Files
pub mod Printed
