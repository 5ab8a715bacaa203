pub mod Requests
pub mod CommandLine
pub mod Asked
pub mod FilterRequests
pub mod FilterCommands
pub mod FilterLine
pub mod FilterAsked
