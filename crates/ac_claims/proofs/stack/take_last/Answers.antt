use Rattle.ac_claims_paths.specs.ModelCalls.{pairing}
use Rattle.ac_claims.proofs.Entering.{formed_last, ongoing_last, ongoing_front, last_goes_on, last_stops}
use Rattle.ac_claims.proofs.stack.take_last.Goals as goal

pub advance-requires-clause-formed : goal.advance-requires-clause-formed
advance-requires-clause-formed c = formed_last c.args.line.now.programs.now.left.now.params c.args.ongoing.now c.pop.new.self c.in-Some.plan c.in-Some.ensures c.requires.formed

pub advance-requires-clause-entries : goal.advance-requires-clause-entries
advance-requires-clause-entries c = (ongoing_last c.args.ongoing.now c.pop.new.self c.in-Some.plan c.in-Some.ensures c.requires.ongoing).entries

pub keep-requires-clause-entries : goal.keep-requires-clause-entries
keep-requires-clause-entries c = c.in-Ok.ensures.1

pub keep-requires-clause-ongoing : goal.keep-requires-clause-ongoing
keep-requires-clause-ongoing c = ongoing_front c.args.ongoing.now c.pop.new.self c.in-Some.plan c.in-Some.ensures c.requires.ongoing

pub returns-in_ok-keep-in-Ok-clause-settles : goal.returns-in_ok-keep-in-Ok-clause-settles
returns-in_ok-keep-in-Ok-clause-settles c =
    last_goes_on (pairing c.args.line.now.programs.now) c.args.line.now.claims.now c.args.line.now.item.now c.args.line.now.number c.args.ongoing.now c.pop.new.self c.keep.new.ongoing c.in-Some.plan c.in-Ok.rows c.advance.new.due
    c.in-Some.ensures c.requires.ongoing c.in-Ok.ensures.0 c.in_ok-keep-in-Ok.ensures.dues

pub returns-in-Err-clause-settles : goal.returns-in-Err-clause-settles
returns-in-Err-clause-settles c =
    last_stops (pairing c.args.line.now.programs.now) c.args.line.now.claims.now c.args.line.now.item.now c.args.line.now.number c.args.ongoing.now c.pop.new.self c.pop.new.self c.in-Some.plan c.advance.new.due c.in-Err.stop c.in-Some.ensures c.requires.ongoing c.in-Err.ensures
