-- What a tag's refusal shows, and where the next step reads.
pub mod Reason
pub mod Fault
