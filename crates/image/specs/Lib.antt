pub mod Images
pub mod Refusals
pub mod Messages
