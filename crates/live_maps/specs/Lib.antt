pub mod Giving
pub mod Live
pub mod Numbering
pub mod PlaceOrders
pub mod Ranks
