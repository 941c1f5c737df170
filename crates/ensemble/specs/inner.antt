-- The vocabulary of private contracts: what the functions of the search say to one another. No caller meets it.
pub mod Entries
pub mod Passed
pub mod Ring
