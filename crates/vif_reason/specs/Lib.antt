-- What a refusal of a VIF unit shows: request 6's "the contents of the field at fault".
pub mod Reason
pub mod Fault
