-- The vocabulary of private contracts: what the search position by position says of itself. No caller meets it.
pub mod Passing
pub mod Found
