pub mod Entries
pub mod Tables
pub mod Params
pub mod Places
pub mod Builds
pub mod inner
