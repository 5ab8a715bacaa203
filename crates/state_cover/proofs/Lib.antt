mod Common
pub mod Marks
pub mod Places
pub mod Renaming
pub mod FoundFrames
pub mod Inclusion
