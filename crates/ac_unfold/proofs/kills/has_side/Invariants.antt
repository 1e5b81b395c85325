use Rattle.std.proofs.Common.{take}
use Rattle.std.specs.List.{AllByRecursion}
use Rattle.ac_unfold.specs.UnfoldQuestions.{IsNew}
use Rattle.ac_unfold.proofs.kills.has_side.Given as goal

abbrev pub invariant-loop-part : goal.invariant-loop-part
invariant-loop-part l = AllByRecursion (IsNew l.conj) (take l.part-index l.outside)
