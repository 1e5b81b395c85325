use Rattle.ac_poly.proofs.Making.{FormsMade}
use Rattle.ac_poly.proofs.forms.last_forms.Given as goal

abbrev pub invariant-loop-e : goal.invariant-loop-e
invariant-loop-e l = FormsMade l.own l.exprs l.e-index l.made
