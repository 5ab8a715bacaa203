pub mod Columns
pub mod Summaries
