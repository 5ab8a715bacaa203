pub mod Lines
pub mod Fillings
pub mod Reading
pub mod Progress
pub mod Listings
pub mod Messages
