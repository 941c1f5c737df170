pub mod Ambient
