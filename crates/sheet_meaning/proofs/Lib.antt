-- What the records that are fed make of the memories and a log, and the answers.
pub mod ByteLaws
pub mod BodyLaws
pub mod FeederLaws
pub mod MatchLaws
pub mod AnswerLaws
