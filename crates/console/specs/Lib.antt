-- Request 7: ROW and COL set from the console, in a unit's register block and in a state block.
pub mod Register
pub mod Block
pub mod SetAnswer
