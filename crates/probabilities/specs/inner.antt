-- The vocabulary of private contracts: what the functions of this crate say to one another.
pub mod Filled
