-- Laws of the definitions, by subject; the crates above cite them.
pub mod StepLaws
pub mod MpgLaws
pub mod KeepLaws
pub mod RangeKept
pub mod ReadyLaws
pub mod UnpackLaws
pub mod SheetLaws
pub mod FeedLaws
pub mod BurstLaws
pub mod CodesLaws
pub mod Vif0Laws
