pub mod Accepting
pub mod Views
pub mod DraftNodes
pub mod Agreeing
pub mod PlacedNodes
pub mod Counting
pub mod Shapes
pub mod PlacedMarks
