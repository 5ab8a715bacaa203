pub mod Followed
pub mod Limited
pub mod Rejections
pub mod Turns
