-- What the programs that run cases share.
pub mod Changes
pub mod Input
pub mod Memories
pub mod Runs
