-- Runs: many steps, how they end, and their outcomes.
pub mod Runs
pub mod Ends
pub mod Outcomes
