pub mod AllMaps
pub mod CommandLaws
mod Common
pub mod ContentLaws
pub mod EitherLaws
pub mod InsertLaws
pub mod MapLaws
pub mod KeySizes
pub mod ReportOrderLaws
pub mod UpdateLaws
