mod Common
pub mod CountedLaws
pub mod RunsLaws
pub mod RanksLaws
pub mod HitsLaws
pub mod FrameLoop
pub mod StepsLaws
