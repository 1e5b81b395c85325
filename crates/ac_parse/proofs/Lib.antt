pub mod Assigning
pub mod Composing
pub mod Conditions
pub mod OneSourceFault
pub mod Built
pub mod Assigned
pub mod Executed
