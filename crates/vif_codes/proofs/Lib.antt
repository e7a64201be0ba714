-- Laws of the definitions, by subject; the crates above cite them.
pub mod CodeLaws
pub mod RangeLaws
pub mod CodeRanged
pub mod CodeKept
