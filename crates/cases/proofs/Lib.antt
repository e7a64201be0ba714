-- Laws of the definitions.
pub mod ChangeLaws
pub mod Laws
pub mod RunLaws
