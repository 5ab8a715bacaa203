mod Common
pub mod StoredStatesLaws
pub mod Paths
pub mod SearchMoves
pub mod Lengthening
pub mod Starts
pub mod Stopping
pub mod Unfinished
pub mod Walking
pub mod Counting
pub mod Telling
pub mod Trails
