-- What every layer's definitions are written with.
pub mod Fields
pub mod Memory
pub mod Parts
pub mod Refusals
pub mod Counts
