pub mod Text
pub mod Back
pub mod Shown
pub mod Names
pub mod TradeWords
pub mod Table
pub mod Told
