pub mod Within
pub mod Keeps
pub mod Joint
pub mod Wides
pub mod Lows
pub mod Ranges
