pub mod Reads
pub mod Machine
pub mod StepResults
pub mod Machines
pub mod Stops
pub mod Watching
