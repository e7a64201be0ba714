-- Laws of the definitions; the crates above cite them.
pub mod WordLaws
pub mod PartLaws
pub mod PathLaws
pub mod UnitLaws
pub mod StateLaws
