pub mod Lent
pub mod Told
pub mod Replies
pub mod Unread
