pub mod Replies
pub mod Shown
pub mod Answered
pub mod Finite
pub mod Unread
