use Rattle.std.proofs.Common.{◌≡◌, ◌++◌}
use Rattle.std.specs.List.{range_with_len}
use Rattle.ac_forms.specs.Renaming.{picked}
use Rattle.ac_unfold.proofs.breaks.push_numbers.Given as goal

abbrev pub invariant-loop-k : goal.invariant-loop-k
invariant-loop-k l = l.numbers ≡ l.fn.numbers ++ picked (range_with_len l.first l.k) l.point
