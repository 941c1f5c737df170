pub mod Tables
pub mod Answers
pub mod Filled
pub mod Cases
pub mod Unread
