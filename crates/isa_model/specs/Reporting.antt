-- Frame streams, and the report of a run over one.
pub mod Frames
pub mod Streams
pub mod Messages
pub mod Reports
