pub mod Sources
pub mod Buffers
pub mod Readers
pub mod Stages
pub mod Reading
pub mod Inputs
