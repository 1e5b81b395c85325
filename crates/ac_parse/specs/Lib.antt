pub mod Program
pub mod ParseAnswers
pub mod TextMeaning
pub mod TextFaults
pub mod AssignedArrays
pub mod ProgramPairs
pub mod Arities
