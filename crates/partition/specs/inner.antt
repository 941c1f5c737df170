-- The vocabulary of contracts over weights that are known to be in form. No caller of a public call meets it.
pub mod Used
