pub mod LineWords
pub mod Spelling
pub mod Spellable
pub mod ItemReaders
pub mod UniqueItems
