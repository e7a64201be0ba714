-- The comparison of two boards' memories and logs, read top to bottom.
pub mod Tests
pub mod Elements
pub mod Parts
pub mod Boards
pub mod Within
pub mod Equal
pub mod Inner
pub mod CompareAnswer
