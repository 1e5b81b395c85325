use Rattle.std.proofs.Common.{take}
use Rattle.ac_unfold.specs.PlanResults.{judge_of}
use Rattle.ac_unfold.specs.BrokenPathResults.{Adds, IsNone, IsPathBreaking}
use Rattle.ac_unfold.proofs.further.further_rows.Given as goal

abbrev pub invariant-loop-row : goal.invariant-loop-row
invariant-loop-row l = Adds (IsPathBreaking (judge_of l.search).params l.node.pair_path l.node.question.conj (take l.row-index l.rows)) IsNone l.fn.found_paths l.found_paths
