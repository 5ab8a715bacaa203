-- The machine: its states, values and memory, and what each step does.
pub mod States
pub mod Pointers
pub mod Memory
pub mod Calls
pub mod MapContents
pub mod MapHelpers
pub mod HelperCalls
pub mod Steps
pub mod Successors
pub mod MachineStates
