-- Histories of runs from one start, and what is true of the tags read in them.
pub mod Trace
pub mod History
pub mod Totalled
pub mod Example
