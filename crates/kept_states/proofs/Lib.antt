mod Common
pub mod ConstantsLaws
pub mod ChangeLaws
pub mod EarlierLaws
pub mod HeldLaws
pub mod PendingLaws
pub mod GroupLaws
pub mod ProvedBytesLaws
pub mod SameMaps
