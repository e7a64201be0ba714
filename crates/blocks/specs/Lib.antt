-- State blocks of cases, as results show them.
pub mod Shown
