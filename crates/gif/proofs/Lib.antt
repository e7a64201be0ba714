-- Laws of the definitions, by subject; the crates above cite them.
pub mod LogLaws
pub mod RangeLaws
pub mod TagLaws
pub mod DataLaws
pub mod StepLaws
pub mod FeedLaws
pub mod BurstLaws
pub mod SheetLaws
