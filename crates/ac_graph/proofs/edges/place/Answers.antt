use Rattle.std.proofs.Common.{◌∙◌, sym, rules}
use Rattle.ac_graph.proofs.PlaceSteps.{place_next, place_none}
use Rattle.ac_graph.proofs.edges.place.Goals as goal

pub loop-at-preserved : goal.loop-at-preserved
loop-at-preserved c = place_next c.args.pairs.now c.args.pair.now c.loop-at.at _ c.loop-at.invariant c.loop-at-test.true (sym c.same_pair.ensures ∙ c.if-same_pair.false)

pub returns : goal.returns
returns c = place_none c.args.pairs.now c.args.pair.now c.loop-at.at c.loop-at.invariant (search rules)
