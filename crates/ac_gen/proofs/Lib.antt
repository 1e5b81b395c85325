mod Random
mod Listed
mod Shifts
mod Holding
pub mod Making
pub mod Faultless
pub mod Numbers
pub mod LoopLowering
pub mod Pairs
