mod Common
pub mod TransferLaws
