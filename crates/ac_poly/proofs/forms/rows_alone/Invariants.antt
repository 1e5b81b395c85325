use Rattle.ac_poly.proofs.Making.{ContextMade}
use Rattle.ac_poly.proofs.forms.rows_alone.Given as goal

abbrev pub invariant-loop-part : goal.invariant-loop-part
invariant-loop-part l = ContextMade l.parts l.part-index l.made
