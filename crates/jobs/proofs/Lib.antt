pub mod Numbers
pub mod Figures
pub mod Stretches
pub mod States
pub mod Sheets
pub mod Unread
