mod Common
mod Words
mod Parsed
mod FilterParsed
pub mod AskedExamples
pub mod AskedLaws
pub mod WalkLaws
