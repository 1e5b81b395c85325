use Rattle.std.proofs.Common.{take}
use Rattle.ac_forms.specs.ListMembers.{IsAmong}
use Rattle.ac_hull.specs.SmallestIntegers.{AreFirst}
use Rattle.ac_hull.proofs.first.first.Given as goal

abbrev pub invariant-loop-candidate : goal.invariant-loop-candidate
invariant-loop-candidate l = AreFirst l.limit (λ x. IsAmong x (take l.candidate-index l.candidates)) l.numbers
