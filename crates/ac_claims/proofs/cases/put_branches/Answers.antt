use Rattle.std.proofs.Common.{◌++◌, ap}
use Rattle.std.proofs.lemmas.Bool.{iff_false}
use Rattle.ac_claims.specs.StackEntries.{dues}
use Rattle.ac_claims.specs.Machine.{Onto}
use Rattle.ac_claims.proofs.BranchSteps.{back_again, not_nil}
use Rattle.ac_claims.proofs.StackSteps.{settles_as}
use Rattle.ac_claims.proofs.cases.put_branches.Goals as goal

pub awaits-requires-clause-due : goal.awaits-requires-clause-due
awaits-requires-clause-due c = not_nil c.args.branches c.reversed.result (iff_false c.is_empty.ensures c.if-is_empty.false) c.reversed.ensures

pub returns : goal.returns
returns c =
    settles_as _ _ c.awaits.new.due c.awaits.result (ap (λ z. Onto (z ++ dues c.args.path.conj.rows c.args.due.now)) (back_again c.args.path c.args.branches c.reversed.result c.reversed.ensures)) c.awaits.ensures
