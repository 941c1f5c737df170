pub mod Sequences
pub mod Designs
pub mod Decks
pub mod Table
pub mod Faults
pub mod Marked
pub mod Dilute
