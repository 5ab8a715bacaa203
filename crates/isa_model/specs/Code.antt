-- What an instruction is: registers, sizes, numbers, forms and their bytes; helpers, map rows,
-- versions and limits.
pub mod Registers
pub mod Sizes
pub mod Versions
pub mod Limits
pub mod Helpers
pub mod Instructions
pub mod MapRows
pub mod Spelling
pub mod EachByte
pub mod Numbers
pub mod NumberLaws
