-- Why a run stopped: request 6.
pub mod Why
pub mod Truth
pub mod Points
pub mod Inner
pub mod Reason
