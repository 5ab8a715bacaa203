mod Common
pub mod Kept
pub mod ComparingLaws
pub mod RefiningLaws
