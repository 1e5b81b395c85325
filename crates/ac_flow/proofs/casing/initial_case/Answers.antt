use Rattle.std.proofs.Common.{refl}
use Rattle.ac_flow.specs.CaseStops.{plain}
use Rattle.ac_flow.specs.FlowCases.{seen}
use Rattle.ac_flow.proofs.CaseSteps.{initial_is, initial_stops, initial_filled}
use Rattle.ac_flow.proofs.casing.initial_case.Goals as goal

pub case_of-requires-clause-rows : goal.case_of-requires-clause-rows
case_of-requires-clause-rows c = rw c.new-rows.ensures tt

pub returns-in-Ok-clause-case : goal.returns-in-Ok-clause-case
returns-in-Ok-clause-case c = initial_is c.args.m.now (seen c.args.reader.now) c.in_ok-columns.columns c.new-rows.result c.in-Ok.parts.left c.in-Ok.parts.kills _ c.in_ok-columns.ensures c.new-rows.ensures c.in-Ok.ensures.case refl

pub returns-clause-stops : goal.returns-clause-stops
returns-clause-stops c = initial_stops c.args.budget c.args.m.now (seen c.args.reader.now) c.in_ok-columns.columns c.new-rows.result (plain c.in-Err.stop) c.in_ok-columns.ensures c.new-rows.ensures c.in-Err.ensures.stops

pub returns-clause-full : goal.returns-clause-full
returns-clause-full c = initial_filled c.args.budget c.args.m.now (seen c.args.reader.now) c.in_ok-columns.columns c.new-rows.result c.args.room c.in-Err.stop c.in_ok-columns.ensures c.new-rows.ensures c.in-Err.ensures.full
