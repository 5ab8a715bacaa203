mod Common
pub mod RowLaws
pub mod SessionStreamLaws
pub mod StreamLaws
pub mod Values
