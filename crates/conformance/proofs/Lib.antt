-- Demand 3, from words in memory up to whole sheets; and the table of bench points.
pub mod WordLaws
pub mod FeedLaws
pub mod TagLaws
pub mod MeaningLaws
pub mod RecordLaws
pub mod SheetLaws
pub mod StartLaws
pub mod Theorem
pub mod NotEmpty
pub mod AnswerLaws
pub mod Points
pub mod PlayLaws
pub mod SetLaws
