-- Laws of the check.
pub mod EntryLaws
pub mod RunLaws
pub mod CheckLaws
pub mod Theorems
pub mod Builder
