pub mod Sequences
pub mod Listed
pub mod Answers
pub mod Cases
