pub mod Parts
pub mod Rooms
