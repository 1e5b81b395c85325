use Rattle.ac_flow.proofs.KillSteps.{found_next, kills_stop, kills_memory}
use Rattle.ac_flow.proofs.case_kills.found_kills.Goals as goal

pub returns-in-Err-clause-stops : goal.returns-in-Err-clause-stops
returns-in-Err-clause-stops c = kills_stop c.args.budget c.args.m.now c.args.assumed.now c.args.writings.now c.loop-numbers.numbers-index _ c.in-Err.stop c.loop-numbers-test.true c.in-Err.ensures.stops

pub returns-in-Err-push-clause-stops : goal.returns-in-Err-push-clause-stops
returns-in-Err-push-clause-stops c = kills_memory c.args.budget c.args.m.now c.args.assumed.now c.args.writings.now c.loop-numbers.numbers-index _ c.loop-numbers-test.true

pub loop-numbers-preserved : goal.loop-numbers-preserved
loop-numbers-preserved c =
    found_next c.args.budget c.args.m.now c.args.assumed.now c.args.writings.now c.loop-numbers.numbers-index _ c.loop-numbers.kills c.push.new.self c.in-Ok.found c.loop-numbers.invariant c.loop-numbers-test.true c.in-Ok.ensures.found c.in-Ok-push.ensures.ok
