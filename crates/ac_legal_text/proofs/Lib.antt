pub mod Texts
pub mod Numerals
pub mod Terms
pub mod Levels
pub mod Lines
pub mod Joining
pub mod Unspelled
