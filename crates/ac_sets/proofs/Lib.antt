pub mod Sums
pub mod Searches
pub mod Commons
pub mod Branches
pub mod Outsides
pub mod Standing
pub mod Moving
