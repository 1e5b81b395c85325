use Rattle.std.proofs.Common.{sym, ap, ◌∙◌}
use Rattle.ac_syntax.specs.declared.tree.Position.{Position}
use Rattle.ac_unfold.proofs.Clearing.{none_all, none_first, none_more}
use Rattle.ac_unfold_table.proofs.Claiming.{claim_by, read_among}
use Rattle.ac_unfold_table.proofs.relations.is_claimed.Goals as goal

pub loop-number-init : goal.loop-number-init
loop-number-init c = none_first c.args.claims.now c.args.relation.now.left c.args.relation.now.right

pub loop-number-preserved : goal.loop-number-preserved
loop-number-preserved c =
    none_more c.args.claims.now c.args.relation.now.left c.args.relation.now.right c.loop-number.number c.index-claims-number.result c.loop-number.invariant c.loop-number-test.true c.index-claims-number.is (sym c.is_of_pair.ensures ∙ c.if-is_of_pair.false)

pub returns-clause-none : goal.returns-clause-none
returns-clause-none c = λ _ d i same.
    none_all c.args.claims.now c.args.relation.now.left c.args.relation.now.right c.loop-number.number c.loop-number-test.false c.loop-number.invariant d i (ap (λ (k : Position × Position). k.0) (sym same)) (ap (λ (k : Position × Position). k.1) (sym same))

pub returns-then-is_of_pair-clause-claimed : goal.returns-then-is_of_pair-clause-claimed
returns-then-is_of_pair-clause-claimed c = λ _.
    claim_by c.args.claims.now c.args.relation.now c.index-claims-number.result (read_among c.args.claims.now c.loop-number.number c.index-claims-number.result c.loop-number-test.true c.index-claims-number.is) (sym c.is_of_pair.ensures ∙ c.if-is_of_pair.true)
