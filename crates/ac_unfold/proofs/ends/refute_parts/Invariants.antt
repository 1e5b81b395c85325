use Rattle.std.proofs.Common.{take}
use Rattle.ac_unfold.specs.PlanResults.{judge_of}
use Rattle.ac_unfold.specs.BrokenPathResults.{Adds, IsNone, IsPathBeside}
use Rattle.ac_unfold.specs.EndRows.{AreRefutedOn}
use Rattle.ac_unfold.specs.UnbrokenResults.{AreEmpty, FindsNone}
use Rattle.ac_unfold.proofs.ends.refute_parts.Given as goal

abbrev pub invariant-loop-part : goal.invariant-loop-part
invariant-loop-part l = record {
  refuted : AreRefutedOn l.search l.node.embedding l.node.question (take l.part-index l.outside) l.plans.items;
  found : Adds (IsPathBeside (judge_of l.search).params l.node.pair_path l.node.question.conj (take l.part-index l.outside)) IsNone l.fn.found_paths l.found_paths;
  empty : FindsNone l.search l.fn.found_paths l.found_paths → AreEmpty l.node.question.conj (take l.part-index l.outside);
}
