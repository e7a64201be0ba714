-- Laws of many writes at once.
pub mod CopyLaws
pub mod ShortLaws
pub mod VectorsLaws
pub mod ReadLaws
