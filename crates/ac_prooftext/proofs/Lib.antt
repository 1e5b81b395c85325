pub mod LineProgress
mod Counts
mod Following
mod Growing
mod Taking
mod Judging
mod Coursing
mod Streams
mod Answering
mod Verdicts
mod Excluding
pub mod WriteSteps
mod Joining
mod Reading
mod ReadSteps
pub mod Rebuilding
pub mod Sound
