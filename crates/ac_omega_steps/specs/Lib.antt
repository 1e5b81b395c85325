pub mod IntegerPoints
pub mod Combination
pub mod Bounds
pub mod Choices
pub mod LeftRows
pub mod ChoiceFits
pub mod Splinters
pub mod Extremes
