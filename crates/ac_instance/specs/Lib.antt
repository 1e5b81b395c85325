pub mod Events
pub mod KeptIds
pub mod MachineSteps
pub mod Least
pub mod ComparisonAnswers
