-- The step of a VIF unit, as document 01's chapter "VIF codes" has it, read top to bottom.
pub mod Step
pub mod Feeds
pub mod Feed
pub mod Inner
