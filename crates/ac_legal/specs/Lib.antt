pub mod QuestionChoices
pub mod WideQuestions
pub mod ScheduleAnswers
