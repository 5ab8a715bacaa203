mod Common
pub mod Loop
pub mod RowSpelling
pub mod CodeSpelling
pub mod Whole
pub mod ImageSpelling
pub mod Writing
pub mod CodeLaws
pub mod ImageLaws
pub mod Programs
pub mod RowLaws
