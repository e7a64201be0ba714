-- No step and no run is refused with another number.
pub mod GifNumbers
pub mod VifNumbers
pub mod RunNumbers
