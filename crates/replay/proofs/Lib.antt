pub mod Values
pub mod Words
pub mod Figures
pub mod Letters
pub mod Fewest
