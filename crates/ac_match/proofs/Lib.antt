pub mod Same
pub mod Looks
pub mod Searches
pub mod Numbering
