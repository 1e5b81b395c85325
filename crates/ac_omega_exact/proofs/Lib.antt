pub mod Again
pub mod Counts
pub mod Covering
pub mod Implying
pub mod Left
pub mod Needed
pub mod Sizes
pub mod Summing
