use Rattle.ac_graph.proofs.PlaceSteps.{places_step, places_end}
use Rattle.ac_graph.proofs.spread.places.Goals as goal

pub loop-at-preserved : goal.loop-at-preserved
loop-at-preserved c =
    places_step c.args.pairs.now c.args.more.now c.loop-at.at _ c.loop-at.pairs c.placed.new.pairs c.loop-at.made c.push.new.self c.in_ok-found.found c.loop-at.invariant c.loop-at-test.true c.in_ok-found.ensures.extends c.in_ok-found.ensures.place c.in_ok-push.ensures.ok

pub returns-clause-places : goal.returns-clause-places
returns-clause-places c = places_end c.args.more.now c.loop-at.at c.loop-at.pairs c.loop-at.made c.loop-at.invariant.1 c.loop-at-test.false
