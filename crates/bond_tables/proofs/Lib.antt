pub mod Table
pub mod Over
pub mod Bounded
pub mod Filled
pub mod Replies
pub mod Cases
pub mod Unread
