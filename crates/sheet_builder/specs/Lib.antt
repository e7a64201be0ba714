-- What inner functions of the builder require of their input, and what they make of it; what `build` promises is said by the definitions of `sheet`.
pub mod Writing
pub mod WriteLaws
