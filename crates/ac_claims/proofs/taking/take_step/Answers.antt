use Rattle.ac_claims_paths.specs.ModelCalls.{pairing}
use Rattle.ac_claims.proofs.StackSteps.{settles_as, step_taken, step_entries}
use Rattle.ac_claims.proofs.taking.take_step.Goals as goal

pub awaits-requires-clause-entries : goal.awaits-requires-clause-entries
awaits-requires-clause-entries c = step_entries c.args.step.now c.args.path c.in-Ok.conj c.args.due.now c.in-Ok.ensures.exact c.requires.entries

pub returns-in-Ok : goal.returns-in-Ok
returns-in-Ok c = settles_as _ _ c.awaits.new.due c.awaits.result (step_taken (pairing c.args.line.now.programs.now) c.args.line.now.claims.now c.args.step.now c.args.line.now.number c.args.path c.in-Ok.conj c.args.due.now c.in-Ok.ensures.exact c.requires.entries) c.awaits.ensures
