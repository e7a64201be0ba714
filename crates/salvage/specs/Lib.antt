-- Salvaging sheets, as document 02's request 8 has it.
pub mod Salvage
pub mod Claims
pub mod Inner
pub mod SalvageAnswer
