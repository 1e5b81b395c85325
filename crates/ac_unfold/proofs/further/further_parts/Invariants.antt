use Rattle.std.proofs.Common.{take}
use Rattle.ac_unfold.specs.PlanResults.{judge_of}
use Rattle.ac_unfold.specs.BrokenPathResults.{Adds, IsNone, IsPathBeside}
use Rattle.ac_unfold.proofs.further.further_parts.Given as goal

abbrev pub invariant-loop-part : goal.invariant-loop-part
invariant-loop-part l = Adds (IsPathBeside (judge_of l.search).params l.node.pair_path l.node.question.conj (take l.part-index l.outside)) IsNone l.fn.found_paths l.found_paths
