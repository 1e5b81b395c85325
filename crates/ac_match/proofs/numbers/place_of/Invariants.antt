use Rattle.std.proofs.Common.{◌≡◌}
use Rattle.ac_match.proofs.Numbering.{PlaceHalfway}
use Rattle.ac_match.proofs.numbers.place_of.Given as goal

abbrev pub invariant-loop-candidate : goal.invariant-loop-candidate
invariant-loop-candidate l = (l.place ≡ l.candidate-index) × PlaceHalfway l.sites l.site l.candidate-index
