pub mod Bytes
pub mod Acts
mod Common
pub mod Turns
pub mod Helpers
pub mod ReadsLaws
