use Rattle.std.proofs.Common.{◌≡◌, take}
use Rattle.ac_unfold_table.proofs.relations.copy_of.Given as goal

abbrev pub invariant-loop-row : goal.invariant-loop-row
invariant-loop-row l = l.rows ≡ take l.row-index l.row-items
