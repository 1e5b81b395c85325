pub mod Conflicts
pub mod EntryTimes
pub mod Reorderings
pub mod Schedules
pub mod OrderQuestions
pub mod BrokenOrders
