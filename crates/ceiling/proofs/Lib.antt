pub mod Cases
pub mod Passing
pub mod Whole
pub mod Replies
pub mod Lowest
pub mod Unread
