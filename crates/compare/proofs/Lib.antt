-- Laws of the definitions, by subject; what the comparison says is in Verdict and Unasked.
pub mod TestLaws
pub mod ElementLaws
pub mod LengthLaws
pub mod CompareLaws
pub mod WithinLaws
pub mod ListLaws
pub mod Verdict
pub mod VerdictWithin
pub mod Unasked
pub mod Examples
