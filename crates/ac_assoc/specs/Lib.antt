pub mod ChosenOrders
pub mod ValueSequences
pub mod ProgramChains
pub mod ArrangementFaults
pub mod ArrangeablePairs
pub mod ChosenArrangements
