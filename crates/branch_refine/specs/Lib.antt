pub mod Numbers
pub mod Comparing
pub mod Refining
pub mod Leaving
