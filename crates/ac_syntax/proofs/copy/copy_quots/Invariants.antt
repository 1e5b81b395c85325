use Rattle.std.proofs.Common.{◌≡◌, take}
use Rattle.ac_syntax.proofs.copy.copy_quots.Given as goal

abbrev pub invariant-loop-quot : goal.invariant-loop-quot
invariant-loop-quot l = l.copies ≡ take l.quot-index l.quots
