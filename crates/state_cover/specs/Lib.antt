pub mod Names
pub mod FrameCover
