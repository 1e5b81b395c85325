use Rattle.ac_walk.specs.OutputSearch.{IsKnownUnder}
use Rattle.ac_walk.proofs.walking.walk.Given as goal

abbrev pub invariant-loop-turn : goal.invariant-loop-turn
invariant-loop-turn l = IsKnownUnder l.search l.order l.state.known
