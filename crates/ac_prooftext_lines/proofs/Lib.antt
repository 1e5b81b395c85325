mod Numerals
mod Splits
pub mod Cuts
mod Naming
mod Arms
mod StepArms
pub mod Plain
pub mod Injective
mod ItemArms
mod HeadArms
mod NodeArms
mod Terms
mod Mapped
mod Places
