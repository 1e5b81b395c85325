use Rattle.std.proofs.Common.{sym, ◌∙◌}
use Rattle.ac_unfold.proofs.Clearing.{none_all, none_more}
use Rattle.ac_unfold.proofs.claiming.claim_at.Goals as goal

pub loop-number-preserved : goal.loop-number-preserved
loop-number-preserved c =
    none_more c.args.claims.now c.args.left.now c.args.right.now c.loop-number.number c.index-claims-number.result c.loop-number.invariant c.loop-number-test.true c.index-claims-number.is (sym c.is_of.ensures ∙ c.if-is_of.false)

pub returns-clause-none : goal.returns-clause-none
returns-clause-none c = λ _. none_all c.args.claims.now c.args.left.now c.args.right.now c.loop-number.number c.loop-number-test.false c.loop-number.invariant
