use Rattle.std.proofs.Common.{take}
use Rattle.ac_forms.specs.ListMembers.{IsAmong}
use Rattle.ac_hull.specs.ColumnDifferences.{IsSum}
use Rattle.ac_hull.specs.declared.difference.Difference.{Difference}
use Rattle.ac_hull.proofs.Thinnings.{SomeAmong}
use Rattle.ac_hull.proofs.thinning.is_sum_of_two.Given as goal

abbrev pub invariant-loop-left : goal.invariant-loop-left
invariant-loop-left l = ¬ (SomeAmong (λ a. (b : Difference) × IsAmong b l.others × IsSum a b l.row) (take l.left-index l.others))
