mod Common
pub mod Splitting
pub mod LineLaws
pub mod PutLaws
pub mod Taking
pub mod Listing
pub mod Finishing
pub mod ReadBackLines
pub mod ReadBack
pub mod ReadBackTexts
