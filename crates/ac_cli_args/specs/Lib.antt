pub mod DecimalNumbers
pub mod CommandLine
pub mod SymbolLists
pub mod Commands
pub mod ValuationEntries
pub mod Valuations
pub mod UniqueCommands
