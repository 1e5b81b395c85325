use Rattle.std.proofs.Common.{◌++◌, List, sym, ap, ◌∙◌, append_assoc}
use Rattle.ac_claims.specs.declared.types.ClaimTree.{ClaimTree}
use Rattle.ac_unfold_table.specs.Tables.{all_trees}
use Rattle.ac_walk.proofs.Tabled.{trees_last}
use Rattle.ac_walk.proofs.tabling.with_trees.Goals as goal

pub loop-trees-preserved : goal.loop-trees-preserved
loop-trees-preserved c =
    let ts = c.in-Some.trees in
    c.in_ok-all.ensures ∙ ap (λ (xs : List ClaimTree). xs ++ c.into_vec.result.items) c.loop-trees.invariant ∙ append_assoc c.args.plans.items (all_trees c.loop-trees.yielded) c.into_vec.result.items ∙ ap (λ (xs : List ClaimTree). c.args.plans.items ++ (all_trees c.loop-trees.yielded ++ xs)) c.into_vec.ensures
    ∙ ap (λ (xs : List ClaimTree). c.args.plans.items ++ xs) (sym (trees_last c.loop-trees.yielded ts))
