mod Common
pub mod Written
pub mod HexadecimalLaws
pub mod SlotTextLaws
