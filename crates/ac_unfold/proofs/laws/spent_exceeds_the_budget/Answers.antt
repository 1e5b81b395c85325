use Rattle.ac_omega_certify.specs.declared.strategy.Strategy.TheVariants.{Full}
use Rattle.ac_unfold.specs.UnfoldCauses.{IsTooCostly}
use Rattle.ac_unfold.proofs.Spending.{spent_above}
use Rattle.ac_unfold.proofs.laws.spent_exceeds_the_budget.Goals as goal

pub returns : goal.returns
unfolding IsTooCostly
returns c = λ budget cost q h small. spent_above Full budget cost q h.1 small
