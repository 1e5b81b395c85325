use Rattle.std.proofs.Common.{◌≡◌, drop}
use Rattle.std.specs.List.{list_all}
use Rattle.ac_syntax.specs.Index.{point, comparison_holds, holds}
use Rattle.ac_syntax.specs.CheckedArithmetic.{checked_holds}
use Rattle.ac_syntax.proofs.tree.Cond.holds.Given as goal

abbrev pub invariant-loop-part : goal.invariant-loop-part
invariant-loop-part l =
    (list_all (comparison_holds (point l.params l.iters)) (drop l.part-index l.part-items) ≡ holds (point l.params l.iters) l.self)
    × (checked_holds (point l.params l.iters) (drop l.part-index l.part-items) ≡ checked_holds (point l.params l.iters) l.self.parts)
