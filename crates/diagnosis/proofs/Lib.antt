-- Laws of the definitions, by subject.
pub mod NeedLaws
pub mod TrialLaws
pub mod WhyLaws
pub mod FoundLaws
pub mod Theorems
pub mod RunTheorems
pub mod Points
