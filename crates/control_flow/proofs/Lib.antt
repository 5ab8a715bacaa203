mod Common
mod TargetTests
mod MarkLemmas
mod FunctionsLaws
mod SlotSearch
mod Whole
mod Reading
mod MaskLemmas
mod StackPlaces
mod StackUses
mod LiveMasks
mod LoopBodies
mod KeptMasks
mod InputLaws
mod EndingMarks
mod Graphs
mod Chains
mod MaskUpdates
mod Working
mod WantedPaths
pub mod FlowLaws
pub mod LivenessLaws
pub mod RegisterLaws
