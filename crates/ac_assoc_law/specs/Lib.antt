pub mod Rising
pub mod OperandChains
pub mod ChainSameness
pub mod ArrangedPairs
pub mod ArrangedTables
pub mod FiniteTables
pub mod LawsOfChains
pub mod LawsOfArrangements
