mod Common
pub mod Tops
pub mod FrameActs
pub mod AtomicPlaces
pub mod Running
pub mod SlotOps
pub mod Arguments
pub mod Constants
pub mod EffectsLaws
pub mod FrameLaws
pub mod HelpingLaws
pub mod ShortNumbers
