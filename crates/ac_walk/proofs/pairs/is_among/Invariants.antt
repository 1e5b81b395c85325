use Rattle.std.proofs.Common.{take}
use Rattle.ac_forms.specs.ListMembers.{IsAmong}
use Rattle.ac_walk.proofs.pairs.is_among.Given as goal

abbrev pub invariant-loop-other : goal.invariant-loop-other
invariant-loop-other l = ¬ (IsAmong l.pair (take l.other-index l.pairs))
