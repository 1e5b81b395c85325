pub mod Models
pub mod DifferencePrograms
pub mod FlowQuestions
