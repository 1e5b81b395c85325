use Rattle.ac_claims.specs.StackEntries.{dues}
use Rattle.ac_claims.proofs.KillSteps.{settled_some, settled_none, rows_moduli}
use Rattle.ac_claims.proofs.StackSteps.{settles_as}
use Rattle.ac_claims.proofs.kills.settle.Goals as goal

pub returns-then-choosing-gt0 : goal.returns-then-choosing-gt0
returns-then-choosing-gt0 c = settles_as _ _ c.awaits.new.due c.awaits.result (settled_some c.args.line.now.programs.now.left.now.params c.args.path c.args.choosing (dues c.args.path.conj.rows c.args.due.now) c.if-choosing-gt0.true) c.awaits.ensures

pub is_killed-requires-clause-rows : goal.is_killed-requires-clause-rows
is_killed-requires-clause-rows c = rows_moduli c.args.path.conj c.as_slice.result.now c.requires.path c.as_slice.ensures

pub returns : goal.returns
returns c =
    settles_as _ _ c.args.due.now c.ends_if.result (settled_none c.args.line.now.programs.now.left.now.params c.args.path c.args.choosing (dues c.args.path.conj.rows c.args.due.now) c.as_slice.result.now c.in_ok-killed.killed c.if-choosing-gt0.false c.as_slice.ensures c.in_ok-killed.ensures) (c.ends_if.ensures c.args.due.now c.requires.entries)
