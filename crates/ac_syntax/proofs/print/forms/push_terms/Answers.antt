use Rattle.std.proofs.Common.{pos, get_or, FitsSigned, w64, rules, arith, ◌∙◌, length, ◌≤◌, ◌⊎◌}
use Rattle.std.proofs.lemmas.Int.{to_z-of_z}
use Rattle.ac_syntax.proofs.Sums.{terms_step, terms_end}
use Rattle.ac_syntax.proofs.print.forms.push_terms.Goals as goal

pub loop-i-preserved : goal.loop-i-preserved
loop-i-preserved c =
    let f : FitsSigned w64 (get_or c.args.coefs.now c.loop-i.i (pos 0)) = search rules in
    let text = simp to_z-of_z at c.in_ok-any.ensures.text in
    let any = simp to_z-of_z at c.in_ok-any.ensures.any in
    terms_step c.args.coefs.now c.args.names.now c.loop-i.i (omega (arith, c.loop-i-test.true, c.min-i-end.ensures, c.loop-i.auto.i-end)) (omega (arith, c.loop-i-test.true, c.min-i-end.ensures, c.loop-i.auto.i-end))
    _ _ _ _ _ _ _ _ text any (c.as_bytes.ensures.value ∙ c.index-names-i.is) c.loop-i.invariant

pub returns-clause-text : goal.returns-clause-text
returns-clause-text c =
    let ends : (length c.args.coefs.now ≤ c.loop-i.i) ⊎ (length c.args.names.now ≤ c.loop-i.i) = grind (arith, c.min-i-end.ensures, c.loop-i-test.false) in
    (terms_end c.args.coefs.now c.args.names.now c.loop-i.i ends _ _ _ _ c.loop-i.invariant).0

pub returns-clause-any : goal.returns-clause-any
returns-clause-any c =
    let ends : (length c.args.coefs.now ≤ c.loop-i.i) ⊎ (length c.args.names.now ≤ c.loop-i.i) = grind (arith, c.min-i-end.ensures, c.loop-i-test.false) in
    (terms_end c.args.coefs.now c.args.names.now c.loop-i.i ends _ _ _ _ c.loop-i.invariant).1
