use Rattle.ac_claims.specs.StackEntries.{dues}
use Rattle.ac_claims.proofs.KillSteps.{choose_other}
use Rattle.ac_claims.proofs.StackSteps.{settles_as}
use Rattle.ac_claims.proofs.kills.choose.Goals as goal

pub returns-in_default : goal.returns-in_default
returns-in_default c = settles_as _ _ c.awaits.new.due c.awaits.result (choose_other c.args.line.now.programs.now.left.now.params c.args.line.now.item.now c.args.line.now.number c.args.path c.args.choosing (dues c.args.path.conj.rows c.args.due.now) c.in_default.not-Choice) c.awaits.ensures
