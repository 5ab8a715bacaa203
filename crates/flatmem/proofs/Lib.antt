mod Arrays
mod Common
mod Copies
pub mod BytesLaws
