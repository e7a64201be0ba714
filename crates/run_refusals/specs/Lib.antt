-- The numbers that a run is refused with.
pub mod Numbers
