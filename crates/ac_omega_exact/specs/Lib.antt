pub mod Exact
pub mod ExactnessTests
pub mod Reasons
