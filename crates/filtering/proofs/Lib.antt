mod Common
pub mod FillingLaws
pub mod FilesLaws
pub mod DeliveringLaws
pub mod CapturingLaws
