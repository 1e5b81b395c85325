use Rattle.std.proofs.Common.{◌≡◌, ◌++◌, ℕ, List, Some, None, ap, ◌∙◌, subst}
use Rattle.std.specs.Prelude.{IfErr, IfOk}
use Rattle.ac_forms.specs.Renaming.{rows_renaming}
use Rattle.ac_forms.specs.declared.row.Row.{Row}
use Rattle.ac_claims_paths.specs.PathColumns.{base, columns_of}
use Rattle.ac_unfold.specs.KillCuts.{columns_there}
use Rattle.ac_unfold.specs.UnfoldStops.{HandsBack}
use Rattle.ac_unfold.proofs.claiming.rows_at.Goals as goal

pub returns-clause-rows : goal.returns-clause-rows
returns-clause-rows c =
    let q = c.args.node.now.question in
    let columns : c.as_slice-2.result.now ≡ columns_there c.args.search.now q = c.as_slice-2.ensures ∙ c.in_ok-columns.ensures ∙ ap (λ (n : ℕ). base n ++ (columns_of q.left ++ columns_of q.right)) c.params-params.ensures in
    subst (λ (ks : List ℕ). IfOk c.over_columns.result (λ rows. Some rows ≡ rows_renaming ks c.args.claim.now.rows)) columns
    (subst (λ (rs : List Row). IfOk c.over_columns.result (λ rows. Some rows ≡ rows_renaming c.as_slice-2.result.now rs)) c.as_slice.ensures c.over_columns.ensures.rows)

pub returns-clause-causes : goal.returns-clause-causes
returns-clause-causes c =
    let q = c.args.node.now.question in
    let columns : c.as_slice-2.result.now ≡ columns_there c.args.search.now q = c.as_slice-2.ensures ∙ c.in_ok-columns.ensures ∙ ap (λ (n : ℕ). base n ++ (columns_of q.left ++ columns_of q.right)) c.params-params.ensures in
    subst (λ (ks : List ℕ). IfErr c.over_columns.result (HandsBack q.conj (rows_renaming ks c.args.claim.now.rows ≡ None))) columns
    (subst (λ (rs : List Row). IfErr c.over_columns.result (HandsBack q.conj (rows_renaming c.as_slice-2.result.now rs ≡ None))) c.as_slice.ensures c.over_columns.ensures.causes)
