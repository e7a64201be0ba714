-- The fact about histories, and the laws that it stands on.
pub mod QuadwordLaws
pub mod StepBalance
pub mod HistoryFact
pub mod TotalsFact
pub mod NotEmpty
