mod Common
pub mod FittingLaws
pub mod KindLaws
pub mod FrameLaws
pub mod EntryLaws
pub mod TableLaws
pub mod ListingLaws
pub mod WritingLaws
