pub mod Word
pub mod Job
pub mod Sheet
pub mod inner
pub mod Unread
