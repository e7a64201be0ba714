-- Laws of the definitions, by subject.
pub mod BufferLaws
pub mod SheetLaws
pub mod RunLaws
pub mod PlayLaws
pub mod BoardLaws
pub mod ReasonLaws
pub mod CheckLaws
pub mod NoState
pub mod TotalLaws
