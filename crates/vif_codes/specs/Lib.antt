-- A VIF unit's registers and codes, as document 01's chapter "VIF codes" has them, read top to bottom.
pub mod Setters
pub mod Codes
pub mod Execute
pub mod Payload
pub mod Range
pub mod Words
pub mod Counting
pub mod VifAnswer
pub mod Decoded
