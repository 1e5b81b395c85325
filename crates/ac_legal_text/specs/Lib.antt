pub mod Fronts
pub mod OrderTexts
pub mod LineKinds
pub mod OrderAnswers
pub mod BrokenLines
pub mod OneAnswer
