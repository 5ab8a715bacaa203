mod Common
pub mod PartLaws
