pub mod Tables
pub mod KnownEntries
pub mod Changes
pub mod Untouched
pub mod Checking
pub mod Refusing
pub mod Messages
