-- The GIF, as document 01's chapter "GIF tags" has it, read top to bottom.
pub mod Log
pub mod Tag
pub mod Packed
pub mod Reglist
pub mod Range
pub mod Step
pub mod Run
pub mod Feed
pub mod Inner
pub mod GifAnswer
pub mod Met
