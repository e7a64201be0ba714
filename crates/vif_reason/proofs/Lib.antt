-- Laws of the definitions, by subject; the crates above cite them.
pub mod Trial
pub mod DecodeLaws
pub mod Truth
