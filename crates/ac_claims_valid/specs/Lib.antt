pub mod StepRules
pub mod PlanRules
pub mod ProofRules
pub mod RuleLaws
pub mod TextLaws
