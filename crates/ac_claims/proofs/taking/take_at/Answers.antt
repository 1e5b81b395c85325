use Rattle.ac_claims_paths.specs.ModelCalls.{pairing}
use Rattle.ac_claims.proofs.StackSteps.{settles_as, take_other}
use Rattle.ac_claims.proofs.taking.take_at.Goals as goal

pub returns-in-Step : goal.returns-in-Step
returns-in-Step c = rw c.in-Step.is c.take_step.ensures

pub returns-in-Split : goal.returns-in-Split
returns-in-Split c = rw c.in-Split.is c.take_split.ensures

pub returns-in-Residue : goal.returns-in-Residue
returns-in-Residue c = rw c.in-Residue.is c.take_residue.ensures

pub returns-in-Go : goal.returns-in-Go
returns-in-Go c = rw c.in-Go.is c.take_go.ensures

pub returns-in-Killed : goal.returns-in-Killed
returns-in-Killed c = rw c.in-Killed.is c.take_killed.ensures

pub returns-in-Absurd : goal.returns-in-Absurd
returns-in-Absurd c = rw c.in-Absurd.is (c.take_absurd.ensures c.args.due.now c.requires.entries)

pub returns-in-Hit : goal.returns-in-Hit
returns-in-Hit c = rw c.in-Hit.is (c.take_hit.ensures c.args.due.now c.requires.entries)

pub returns-in-Number : goal.returns-in-Number
returns-in-Number c = rw c.in-Number.is (c.take_number.ensures c.args.due.now c.requires.entries)

pub returns-in-Initial : goal.returns-in-Initial
returns-in-Initial c = rw c.in-Initial.is (c.take_initial.ensures c.args.due.now c.requires.entries)

pub returns-in_default : goal.returns-in_default
returns-in_default c =
    let d = c.in_default in
    settles_as _ _ c.awaits.new.due c.awaits.result (take_other (pairing c.args.line.now.programs.now) c.args.line.now.claims.now c.args.line.now.item.now c.args.line.now.number c.args.path _ d.not-Step d.not-Split d.not-Residue d.not-Go d.not-Absurd d.not-Hit d.not-Number d.not-Initial d.not-Killed) c.awaits.ensures
