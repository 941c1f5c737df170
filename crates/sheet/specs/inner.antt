-- What contracts of inner functions are stated by. No public call is.
pub mod Laid
