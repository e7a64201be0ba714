-- Laws of the definitions, by subject; the crates above cite them.
pub mod FormatLaws
pub mod PayloadLaws
pub mod VectorLaws
pub mod CycleLaws
pub mod WriteLaws
pub mod StepLaws
pub mod WholeLaws
pub mod LengthLaws
pub mod WordsLaws
