pub mod Bare
pub mod Placing
pub mod Ending
pub mod Leaving
pub mod Starting
pub mod Stepping
pub mod Fine
pub mod Breaking
