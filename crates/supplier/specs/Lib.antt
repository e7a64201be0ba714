-- Request 13: a supplier's chain beside a sheet, read top to bottom.
pub mod Check
pub mod Claims
pub mod Inner
pub mod CheckAnswer
