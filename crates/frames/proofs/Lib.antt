mod Common
pub mod HeadNumbers
pub mod Parts
pub mod Stopping
pub mod Findings
pub mod InputsLaws
pub mod BuffersLaws
