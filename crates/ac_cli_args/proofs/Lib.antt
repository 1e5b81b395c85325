mod Values
mod SymbolWords
mod Reading
mod Numerals
mod Lists
mod Parsing
pub mod Determined
pub mod Forms
