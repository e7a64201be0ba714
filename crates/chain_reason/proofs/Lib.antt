-- Laws of the definitions, by subject; the crates above cite them.
pub mod CaseLaws
pub mod Truth
