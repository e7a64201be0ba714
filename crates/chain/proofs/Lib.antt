-- Laws of the definitions, by subject; the crates above cite them.
pub mod TagLaws
pub mod ReadyLaws
pub mod StepLaws
pub mod AfterLaws
pub mod RunLaws
pub mod Theorems
pub mod CountLaws
pub mod ResumeLaws
pub mod BurstLaws
pub mod UnitLaws
