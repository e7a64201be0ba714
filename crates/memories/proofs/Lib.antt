-- Laws of the sizes and lengths.
pub mod UnitLaws
pub mod LengthLaws
