use Rattle.std.proofs.Common.{◌∙◌, None}
use Rattle.ac_flow.specs.FlowCases.{seen}
use Rattle.ac_flow.specs.Writings.{writings}
use Rattle.ac_flow.proofs.ReadSteps.{start, next, done, done_within, source_full, initial_full, source_stop_behind}
use Rattle.ac_flow.proofs.reading.read_cases.Goals as goal

pub loop-i-init : goal.loop-i-init
loop-i-init c = start c.args.budget c.args.m.now (seen c.args.reader.now) c.as_slice-sources.result.now c.new-cases.result c.new-cases.ensures

pub loop-i-preserved : goal.loop-i-preserved
loop-i-preserved c =
    next c.args.budget c.args.m.now (seen c.args.reader.now) c.as_slice-sources.result.now c.loop-i.i _ c.loop-i.cases c.push.new.self c.in-Ok.case c.loop-i.room c.room_behind-room.result c.loop-i.invariant c.loop-i-test.true c.in-Ok.ensures.case c.in-Ok.ensures.kept c.in-Ok.ensures.within c.room_behind-room.ensures
    c.in-Ok-push.ensures.ok

pub returns-in-Err-clause-stops : goal.returns-in-Err-clause-stops
returns-in-Err-clause-stops c =
    source_stop_behind c.args.budget c.args.m.now (seen c.args.reader.now) c.as_slice-sources.result.now c.loop-i.i _ c.in-Err.stop c.stopped_behind.result c.loop-i-test.true (c.as_slice-sources.ensures ∙ c.in_ok-before.ensures) c.in-Err.ensures.stops
    c.stopped_behind.ensures.same

pub returns-in-Err-clause-full : goal.returns-in-Err-clause-full
returns-in-Err-clause-full c =
    source_full c.args.budget c.args.m.now (seen c.args.reader.now) c.as_slice-sources.result.now c.loop-i.i _ c.loop-i.cases c.loop-i.room c.in-Err.stop c.stopped_behind.result c.loop-i.invariant c.loop-i-test.true (c.as_slice-sources.ensures ∙ c.in_ok-before.ensures) c.in-Err.ensures.full c.stopped_behind.ensures.same
    c.stopped_behind.ensures.full

pub returns-in-Ok-push-2-clause-cases : goal.returns-in-Ok-push-2-clause-cases
returns-in-Ok-push-2-clause-cases c =
    done c.args.budget c.args.m.now (seen c.args.reader.now) c.as_slice-sources.result.now (writings c.args.m.now c.args.reader.now.position c.args.reader.now.array None) c.loop-i.i c.loop-i.cases c.push-in-Ok-initial_case.new.self c.in-Ok-initial_case.case c.loop-i.room c.loop-i.invariant
    c.loop-i-test.false (c.as_slice-sources.ensures ∙ c.in_ok-before.ensures) c.in-Ok-initial_case.ensures.case c.in-Ok-push-2.ensures.ok

pub returns-clause-full : goal.returns-clause-full
returns-clause-full c =
    initial_full c.args.budget c.args.m.now (seen c.args.reader.now) c.as_slice-sources.result.now c.loop-i.i c.loop-i.cases c.loop-i.room c.in-Err-initial_case.stop c.stopped_behind-in-Err-initial_case.result c.loop-i.invariant c.loop-i-test.false (c.as_slice-sources.ensures ∙ c.in_ok-before.ensures)
    c.in-Err-initial_case.ensures.full c.stopped_behind-in-Err-initial_case.ensures.same c.stopped_behind-in-Err-initial_case.ensures.full

pub returns-in-Ok-push-2-clause-within : goal.returns-in-Ok-push-2-clause-within
returns-in-Ok-push-2-clause-within c =
    done_within c.args.budget c.args.m.now (seen c.args.reader.now) c.as_slice-sources.result.now c.loop-i.i c.loop-i.cases c.push-in-Ok-initial_case.new.self c.in-Ok-initial_case.case c.loop-i.room c.loop-i.invariant c.in-Ok-initial_case.ensures.within
    c.in-Ok-push-2.ensures.ok
