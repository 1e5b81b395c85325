pub mod Named
pub mod Numbers
pub mod Renamings
pub mod Forms
mod Rows
mod Sums
mod EmbeddedSteps
pub mod Views
pub mod Selves
mod Moving
mod Shapes
pub mod Grown
mod Beside
pub mod PlanParts
mod Classes
mod Makers
mod Branched
mod BranchPlans
pub mod Staying
pub mod Along
pub mod Placed
pub mod QuestionBranches
pub mod Going
pub mod Stepping
pub mod Serving
pub mod Starting
pub mod Covering
pub mod Sides
