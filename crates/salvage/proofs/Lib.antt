-- Laws of the definitions, by subject; the crates above cite them.
pub mod PieceLaws
pub mod RangeLaws
pub mod LoopLaws
pub mod AnswerLaws
pub mod Claims
pub mod Refusals
pub mod Points
