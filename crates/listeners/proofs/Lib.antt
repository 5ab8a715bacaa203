mod Common
pub mod Stops
pub mod Turning
pub mod Following
