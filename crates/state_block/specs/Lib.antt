-- Blocks of words, as docs/FORMATS.md has them.
pub mod Sizes
pub mod Read
pub mod Words
pub mod PathBlock
pub mod UnitBlock
pub mod StateBlock
