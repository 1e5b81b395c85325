pub mod Draws
pub mod PipelineLoops
pub mod Pipelines
pub mod Plain
pub mod WellMade
pub mod GeneratedPair
pub mod PairValidity
