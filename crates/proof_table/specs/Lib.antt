pub mod Spelling
pub mod Fitting
pub mod Listed
pub mod Writing
