pub mod Order
pub mod Lengths
pub mod Listed
pub mod Cases
pub mod Replies
