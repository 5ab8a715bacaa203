pub mod Judging
pub mod Tallies
