use Rattle.ac_walk.proofs.Ranked.{Numbered}
use Rattle.ac_walk.proofs.ranking.with_numbers.Given as goal

abbrev pub invariant-loop-at : goal.invariant-loop-at
invariant-loop-at l = Numbered l.widening_points l.bare l.fn.numbers.items l.at l.made.items
