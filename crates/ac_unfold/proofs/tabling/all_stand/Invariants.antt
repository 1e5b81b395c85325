use Rattle.std.proofs.Common.{ℤ, List, take}
use Rattle.ac_forms.specs.Rows.{Meets}
use Rattle.ac_unfold.specs.PlanResults.{AreStanding}
use Rattle.ac_unfold.proofs.tabling.all_stand.Given as goal

abbrev pub invariant-loop-row : goal.invariant-loop-row
invariant-loop-row l = AreStanding l.conj (take l.row-index l.rows) × ((p : List ℤ) → Meets l.conj.rows p → Meets (take l.row-index l.rows) p)
