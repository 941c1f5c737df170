-- The vocabulary of private contracts: a design that is judged once, and the figures over a model. No caller meets it.
pub mod Judged
pub mod Settled
