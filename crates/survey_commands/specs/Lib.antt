pub mod Ends
pub mod Failures
pub mod Runs
pub mod Tables
