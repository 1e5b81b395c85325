use Rattle.std.proofs.Common.{rules, ◌≡◌, ◌+◌, ◌++◌, ◌∷◌, [], ℤ, List, ℕ, map, take, sym, ap, ◌∙◌, subst, arith, FitsSigned, w64}
use Rattle.std.proofs.lemmas.Int.{to_z-of_z}
use Rattle.std.proofs.lemmas.List.{take_more, map-append}
use Rattle.ac_cli_args.specs.ValuationEntries.{plain}
use Rattle.ac_cli_args.specs.Valuations.{given_to}
use Rattle.ac_cli_args.proofs.Values.{image_at}
use Rattle.ac_cli_args.proofs.given.values.Goals as goal

pub returns-in_default : goal.returns-in_default
returns-in_default c = λ vs e.
    let f : List ℕ → List ℤ = λ name. given_to name (map plain c.args.given.now) in
    let k = image_at f c.args.params.now vs c.loop-param.param-index c.param-item.result c.loop-param-test.true e in
    c.in_default.ensures k.0 (subst (λ (x : List ℕ). f x ≡ k.0 ∷ []) (sym (c.as_bytes.ensures.value ∙ c.param-item.is)) k.1)

pub loop-param-preserved : goal.loop-param-preserved
loop-param-preserved c =
    let f : List ℕ → List ℤ = λ name. given_to name (map plain c.args.given.now) in
    let one : ℤ → List ℤ = λ v. v ∷ [] in
    let v : FitsSigned w64 c.in-Some.value = search rules in
    let i = c.loop-param.param-index in
    let ps = c.args.params.now in
    let x = c.param-item.result in
    let pushed : c.push.new.self.items ≡ c.loop-param.values.items ++ c.in-Some.value ∷ [] = simp to_z-of_z at c.in_ok-push.ensures.items in
    let taken : take (i + 1) ps ≡ take i ps ++ x ∷ [] = take_more ps i x (omega arith) ∙ ap (λ y. take i ps ++ y ∷ []) (sym c.param-item.is) in
    let here : f x ≡ one c.in-Some.value = subst (λ (n : List ℕ). f n ≡ one c.in-Some.value) c.as_bytes.ensures.value c.in-Some.ensures in
    ap (map f) taken ∙ map-append f (take i ps) (x ∷ []) ∙ (λ j. c.loop-param.invariant j ++ here j ∷ [])
    ∙ sym (ap (map one) pushed ∙ map-append one c.loop-param.values.items (c.in-Some.value ∷ []))
