-- Many writes of UNPACK at once: facts for proofs alone. What UNPACK means is said in unpack_rules.
pub mod Short
pub mod Vectors
