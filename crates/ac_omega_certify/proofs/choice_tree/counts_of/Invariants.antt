use Rattle.std.proofs.Common.{◌≡◌, ◌++◌, ◌-◌}
use Rattle.ac_omega_certify.specs.ChoiceBranches.{counts_from}
use Rattle.ac_omega_certify.proofs.choice_tree.counts_of.Given as goal

abbrev pub invariant-loop-i : goal.invariant-loop-i
invariant-loop-i l = l.counts.items ++ counts_from l.i (l.rows - l.i) l.choices ≡ counts_from 0 l.rows l.choices
