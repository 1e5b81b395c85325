use Rattle.std.proofs.Common.{ℤ, List, take}
use Rattle.ac_forms.specs.Rows.{Meets}
use Rattle.ac_unfold_table.proofs.relations.are_among.Given as goal

abbrev pub invariant-loop-row : goal.invariant-loop-row
invariant-loop-row l = (p : List ℤ) → Meets l.among p → Meets (take l.row-index l.rows) p
