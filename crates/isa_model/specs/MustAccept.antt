-- Programs that a verifier must accept.
pub mod Paths
pub mod Plain
pub mod Determined
pub mod Guarded
