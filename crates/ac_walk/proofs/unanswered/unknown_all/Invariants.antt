use Rattle.std.proofs.Common.{take}
use Rattle.ac_walk.specs.TriedValuations.{samples_of}
use Rattle.ac_walk.proofs.Gathered.{AreLeft}
use Rattle.ac_walk.proofs.unanswered.unknown_all.Given as goal

abbrev pub invariant-loop-number : goal.invariant-loop-number
invariant-loop-number l = AreLeft l.pair (samples_of l.pair l.point.items) l.stop (take l.number l.pair.outputs) l.verdicts
