use Rattle.std.proofs.Common.{◌≡◌, ◌++◌, take}
use Rattle.ac_flow.proofs.cutting.push_rows.Given as goal

abbrev pub invariant-loop-row : goal.invariant-loop-row
invariant-loop-row l = l.out ≡ l.fn.out ++ take l.row-index l.rows
