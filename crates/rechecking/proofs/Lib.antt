mod Common
pub mod TableLaws
pub mod CheckingLaws
pub mod GrowingLaws
pub mod ChangeLaws
pub mod KeptLaws
pub mod UntouchedLaws
pub mod WeakerLaws
pub mod RefusalLaws
