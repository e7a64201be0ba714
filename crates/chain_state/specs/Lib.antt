-- The chain's state, as document 01's chapters "Chain tags" and "Steps and how a run stops" have it.
pub mod Setters
pub mod Pending
pub mod Range
pub mod Start
pub mod StartAnswer
