-- What the functions of the C interface answer and leave, read top to bottom.
pub mod Buffers
pub mod Sheets
pub mod Runs
pub mod Play
pub mod Boards
pub mod Reasons
pub mod Checks
pub mod Totals
