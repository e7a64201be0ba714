-- UNPACK, as document 01's chapter "VIF codes" has it from "UNPACK:" on, read top to bottom.
pub mod Formats
pub mod Payload
pub mod Vector
pub mod Position
pub mod Mask
pub mod Write
pub mod Range
pub mod Step
pub mod Whole
pub mod Inner
