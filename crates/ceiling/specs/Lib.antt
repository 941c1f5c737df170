pub mod Ceiling
pub mod Cases
pub mod Answers
pub mod inner
pub mod Unread
