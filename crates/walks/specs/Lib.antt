pub mod Accepting
pub mod Counts
pub mod Explained
pub mod Forgetting
pub mod Messages
pub mod Refused
pub mod Walks
