use Rattle.std.proofs.Common.{take}
use Rattle.ac_forms.specs.Fits.{AllFit}
use Rattle.ac_claims_plans.proofs.plans.see_form.Given as goal

abbrev pub invariant-loop-number : goal.invariant-loop-number
invariant-loop-number l = AllFit (take l.number-index l.number-items)
