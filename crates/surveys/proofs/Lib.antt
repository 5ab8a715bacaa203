mod Common
pub mod Verdicts
