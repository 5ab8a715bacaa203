pub mod Transfers
pub mod Waiting
pub mod Replacing
pub mod Failures
