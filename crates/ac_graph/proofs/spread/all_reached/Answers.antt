use Rattle.ac_graph.proofs.ReachSteps.{reaching_start, reaching_next, reaching_end, pair_at}
use Rattle.ac_graph.proofs.spread.all_reached.Goals as goal

pub loop-at-init : goal.loop-at-init
loop-at-init c = λ d h. reaching_start d c.args.starts c.new-next.result c.requires c.new-next.ensures

pub returns-in-None : goal.returns-in-None
returns-in-None c = λ d h. reaching_end d c.args.starts c.loop-at.pairs c.loop-at.next c.loop-at.at c.as_slice.result.now (c.loop-at.invariant d h) c.as_slice.ensures c.in-None.ensures.lookup.3

pub loop-at-preserved : goal.loop-at-preserved
loop-at-preserved c = λ d h.
    reaching_next d c.args.starts c.loop-at.pairs c.places.new.pairs c.loop-at.next c.push.new.self c.loop-at.at c.in-Some.pair.now c.in_ok-more-in-Some.more c.as_slice-in-Some.result.now c.in_ok-found-in-Some.found
    (c.loop-at.invariant d h) (pair_at c.loop-at.pairs c.as_slice.result.now c.loop-at.at c.in-Some.pair.now c.as_slice.ensures c.in-Some.ensures.lookup.3.0 c.in-Some.ensures.lookup.1)
    (c.in_ok-more-in-Some.ensures d h) c.as_slice-in-Some.ensures c.in_ok-found-in-Some.ensures.extends c.in_ok-found-in-Some.ensures.places c.in_ok-push-in-Some.ensures.ok
