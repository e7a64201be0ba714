-- What the pieces that are stored make of the output, and the answers.
pub mod StoreLaws
pub mod WriterLaws
pub mod BuildLaws
