use Rattle.std.proofs.Common.{[]}
use Rattle.ac_walk_state.specs.UnmatchedOutputs.{AreSitesOf}
use Rattle.ac_walk.specs.OutputDecisions.{AreShown}
use Rattle.ac_walk.proofs.deciding.decide_up_to.Given as goal

abbrev pub invariant-loop-order : goal.invariant-loop-order
invariant-loop-order l = AreSitesOf l.search.pair.now l.search.array l.orders.sites × AreShown l.search l.orders.sites [] l.orders.refuted
