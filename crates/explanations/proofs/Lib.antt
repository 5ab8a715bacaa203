mod Common
pub mod Texts
pub mod EntryLaws
pub mod FrontLaws
