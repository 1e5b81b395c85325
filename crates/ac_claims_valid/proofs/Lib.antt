pub mod StepLaw
pub mod Faults
pub mod PlanLaw
pub mod ProofLaw
pub mod TextLaw
