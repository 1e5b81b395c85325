use Rattle.std.proofs.Common.{◌∙◌, sym, ap, arith, [], ◌∷◌, ◌++◌, List, ℕ}
use Rattle.std.proofs.lemmas.List.FromFn.{map-range_with_len_more}
use Rattle.ac_claims_plans.specs.Embeddings.{column_on, columns_on}
use Rattle.ac_claims_plans.proofs.embedding.Embedding.names.Goals as goal

pub loop-number-preserved : goal.loop-number-preserved
loop-number-preserved c =
    let k = c.loop-number.number in
    let s = c.args.self.now in
    c.in_ok-push.ensures.ok ∙ ap (λ (xs : List ℕ). xs ++ c.in_ok-column.field-0 ∷ []) c.loop-number.invariant ∙ ap (λ (x : ℕ). columns_on s k ++ x ∷ []) c.in_ok-column.ensures ∙ sym (map-range_with_len_more (column_on s) 0 k k (omega arith))
