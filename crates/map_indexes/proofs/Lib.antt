mod Common
pub mod KeyLemmas
pub mod ArrayLaws
pub mod ArrayOrder
pub mod ChainIndexesLaws
pub mod ChainLaws
pub mod ChainChanges
pub mod ListedLinks
pub mod OverflowLaws
pub mod KeyBytes
pub mod FoundPlaces
pub mod HashingLaws
pub mod IndexChanges
pub mod KeyLaws
pub mod KeyOrderLaws
pub mod LastBelowLaws
pub mod ScanLaws
pub mod PlaceKeysLaws
