pub mod Executing
pub mod Proving
pub mod Serving
