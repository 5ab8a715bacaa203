pub mod Hexadecimal
pub mod SlotText
pub mod Parts
