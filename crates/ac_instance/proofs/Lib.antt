pub mod Ids
pub mod Happen
pub mod Values
pub mod Arrays
pub mod Turning
pub mod Elements
pub mod Outcomes
pub mod Narrow
