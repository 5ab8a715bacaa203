mod Common
mod Sizes
pub mod AccessLaws
pub mod AnswerLaws
pub mod ArithmeticLaws
pub mod AtomicLaws
pub mod BesideLaws
pub mod ExactLaws
pub mod FollowLaws
pub mod HelperArgumentLaws
pub mod HelperCallLaws
pub mod PacketLaws
pub mod PacketMoveLaws
pub mod RegisterLaws
pub mod ResultLaws
pub mod ReturnLaws
pub mod SetsRegisterLaws
pub mod StackAccessLaws
pub mod ValueLaws
pub mod ValuePointerLaws
