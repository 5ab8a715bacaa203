pub mod Member
pub mod Bits
