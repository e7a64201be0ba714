-- The chain's steps and the run, as document 01's chapters "Chain tags" and "Steps and how a run stops" have them.
pub mod Tags
pub mod Step
pub mod Run
pub mod Stops
pub mod Resume
pub mod Inner
pub mod StepAnswer
pub mod Answer
