pub mod ChunkLaws
mod Common
pub mod ContentLaws
pub mod KeyValueLaws
pub mod LiveLaws
pub mod LookUpLaws
pub mod NumberingLaws
pub mod OneChanged
pub mod OrderLaws
pub mod PlaceLists
pub mod PlaceOrderLaws
pub mod RanksLaws
pub mod ReorderLaws
pub mod SerialLaws
pub mod Settling
