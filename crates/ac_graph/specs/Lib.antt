pub mod Ways
pub mod NodeMarks
pub mod PairMoves
pub mod ProgramOutlines
pub mod Reachability
pub mod Recurrence
pub mod GraphMeaning
