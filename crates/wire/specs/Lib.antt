-- Words in byte buffers.
pub mod Words
