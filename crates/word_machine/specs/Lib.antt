pub mod Addresses
pub mod Words
pub mod Frames
pub mod Ops
pub mod Helping
pub mod Machine
pub mod Effects
pub mod Runs
