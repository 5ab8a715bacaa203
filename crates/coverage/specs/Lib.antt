pub mod Counted
pub mod Runs
pub mod Hits
pub mod Ranks
pub mod Found
pub mod Steps
