-- Laws of the definitions, by subject.
pub mod RegisterLaws
pub mod BlockLaws
pub mod ReadLaws
pub mod SeenLaws
