use Rattle.std.proofs.Common.{◌++◌, ◌+◌, ◌-◌, ◌*ℤ◌, drop, length, take_all, length-drop, sym, ap, ◌∙◌, arith, rules, ◌∷◌, [], FitsSigned}
use Rattle.std.specs.Int.{w128}
use Rattle.std.proofs.lemmas.Int.{to_z-of_z}
use Rattle.std.specs.Prelude.{Some}
use Rattle.ac_syntax.specs.declared.tree.Quot.{Quot}
use Rattle.ac_parse_exprs.specs.AffineForms.{signed, with_coef, with_quot}
use Rattle.ac_parse_exprs.proofs.QuotientLists.{behind, passed, found, ended}
use Rattle.ac_parse_exprs.proofs.quotients.with_quot.Goals as goal

pub loop-at-preserved : goal.loop-at-preserved
loop-at-preserved c =
    let p = c.index-quots-at.result in
    let same = ap (λ x. c.loop-at.made ++ x ∷ []) c.in_ok-copy_quot.ensures in
    ap (λ made. behind made (with_quot (signed c.args.down) c.args.quot.now (drop (c.loop-at.at + 1) c.args.quots.now))) (c.in_ok-push-2.ensures.ok ∙ same)
    ∙ passed (signed c.args.down) c.args.quot.now c.args.quots.now c.loop-at.made c.loop-at.at p _ (omega arith) c.index-quots-at.is (sym c.same_quot.ensures ∙ c.if-same_quot.false) c.loop-at.invariant

pub returns-then-same_quot : goal.returns-then-same_quot
returns-then-same_quot c =
    let p = c.index-quots-at.result in
    let rest = take_all (length c.args.quots.now - (c.loop-at.at + 1)) (drop (c.loop-at.at + 1) c.args.quots.now) (omega (arith, length-drop {A = Quot})) in
    let made = c.in_ok-append.ensures ∙ (λ i. c.in_ok-push.ensures.ok i ++ rest i) in
    ap Some made
    ∙ found (signed c.args.down) c.args.quot.now c.args.quots.now c.loop-at.made c.loop-at.at p c.in-Some.sum _ (omega arith) c.index-quots-at.is (sym c.same_quot.ensures ∙ c.if-same_quot.true) c.loop-at.invariant (sym c.in-Some.is ∙ c.in_ok-sum.ensures)

pub returns : goal.returns
returns c =
    let q = c.args.quot.now in
    let s : FitsSigned w128 c.sign.result = search rules in
    let e = c.sign.ensures in
    let t = simp to_z-of_z at c.in_ok-last.ensures in
    ap Some c.in_ok-push-3.ensures.ok
    ∙ ended (signed c.args.down) q c.args.quots.now c.loop-at.made c.loop-at.at c.in-Some-2.last _ (omega arith) c.loop-at.invariant (sym c.in-Some-2.is ∙ t ∙ ap (λ k. with_coef (k *ℤ q.coef) q) e)
