-- Request 14: totals over many runs.
pub mod Totals
pub mod Numbers
pub mod Share
pub mod Inner
pub mod AddAnswer
