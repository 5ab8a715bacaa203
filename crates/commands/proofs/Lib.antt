mod Common
mod Delivered
pub mod FilesLaws
mod FirstBytes
pub mod Loading
mod Refusing
mod SettledBytes
mod TextsLaws
