-- Laws of fields, of choices, of lists and of parts.
pub mod FieldLaws
pub mod ChoiceLaws
pub mod ListLaws
pub mod PartLaws
pub mod CountLaws
pub mod RefusalLaws
