use Rattle.std.proofs.Common.{rules, ◌∷◌, [], ◌++◌, ap, sym, ◌∙◌, arith, FitsSigned}
use Rattle.std.specs.Int.{w128}
use Rattle.std.proofs.lemmas.Int.{to_z-of_z}
use Rattle.std.proofs.lemmas.List.FromFn.{map-range_with_len_more}
use Rattle.ac_parse_exprs.specs.AffineForms.{indicator}
use Rattle.ac_parse_exprs.proofs.form.unit.Goals as goal

pub loop-j-preserved : goal.loop-j-preserved
loop-j-preserved c =
    let z : FitsSigned w128 c.indicator.result = search rules in
    let p = simp to_z-of_z at c.in_ok-push.ensures.ok in
    let m = map-range_with_len_more (indicator c.args.k) 0 c.loop-j.j c.loop-j.j (omega arith) in
    p ∙ ap (λ xs. xs ++ c.indicator.result ∷ []) c.loop-j.invariant ∙ sym (rw (← c.indicator.ensures) at m)
