pub mod Sizes
pub mod Answers
pub mod Unread
