-- Demand 3, stated over the definitions that the promises of the builder, the start and the run cite; and the table of bench points.
pub mod Demand
pub mod Play
pub mod Inner
pub mod Points
pub mod PlayAnswer
