-- The vocabulary of private contracts: the state sum as the code builds it. No caller of a public call meets it.
pub mod Sums
