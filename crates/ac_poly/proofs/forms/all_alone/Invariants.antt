use Rattle.std.proofs.Common.{◌≡◌, [], take, map}
use Rattle.ac_poly.specs.IndexForms.{lowered}
use Rattle.ac_poly.proofs.forms.all_alone.Given as goal

abbrev pub invariant-loop-e : goal.invariant-loop-e
invariant-loop-e l = l.made ≡ map (lowered []) (take l.e-index l.exprs)
