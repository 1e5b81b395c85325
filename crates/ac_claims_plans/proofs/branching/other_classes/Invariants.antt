use Rattle.ac_claims_plans.proofs.Classes.{Classes}
use Rattle.ac_claims_plans.proofs.branching.other_classes.Given as goal

abbrev pub invariant-loop-number : goal.invariant-loop-number
invariant-loop-number l = Classes l.modulus l.form l.number l.outside
