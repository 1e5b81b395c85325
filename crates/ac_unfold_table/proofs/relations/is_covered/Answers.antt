use Rattle.std.proofs.Common.{List, sym, ◌∙◌, subst}
use Rattle.ac_forms.specs.Rows.{Meets}
use Rattle.ac_forms.specs.declared.row.Row.{Row}
use Rattle.ac_unfold_table.proofs.Claiming.{covers_by, read_among}
use Rattle.ac_unfold_table.proofs.relations.is_covered.Goals as goal

pub returns-then-are_among : goal.returns-then-are_among
returns-then-are_among c = λ _.
    covers_by c.args.known.now c.claim-item.result c.args.relation.now (read_among c.args.known.now c.loop-claim.claim-index c.claim-item.result c.loop-claim-test.true c.claim-item.is) (sym c.is_of_pair.ensures ∙ c.if-is_of_pair.true)
    (λ p m. subst (λ (xs : List Row). Meets xs p) c.as_slice.ensures (c.are_among.ensures c.if-are_among.true p (subst (λ (xs : List Row). Meets xs p) (sym c.as_slice-then-is_of_pair.ensures) m)))
