pub mod Forms
pub mod Decoding
pub mod Messages
