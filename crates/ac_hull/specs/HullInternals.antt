pub mod Keeping
pub mod Stopping
pub mod Placing
pub mod Finding
pub mod Gathering
pub mod Thinning
