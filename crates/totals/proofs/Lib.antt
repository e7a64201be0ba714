-- Laws of the totals and of the share.
pub mod AddLaws
pub mod NumberLaws
pub mod DivisorLaws
pub mod ShareLaws
pub mod Examples
