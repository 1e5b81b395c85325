use Rattle.ac_flow.proofs.KillSteps.{listed_next}
use Rattle.ac_flow.proofs.case_kills.kills_of.Goals as goal

pub loop-i-preserved : goal.loop-i-preserved
loop-i-preserved c =
    listed_next c.args.columns c.args.writings.now c.args.found.now c.loop-i.i _ c.index-found-i.result c.as_slice.result.now c.loop-i.kills c.push_kills.new.out c.loop-i.invariant c.requires c.loop-i-test.true c.index-found-i.is c.as_slice.ensures
    c.in_ok-push_kills.ensures
