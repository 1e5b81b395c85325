-- The search for two neighbours that clash.
use Rattle.std.proofs.Common.{◌≡◌, ℕ, zero, suc, ◌+◌, ◌-◌, ◌<◌, ◌≤◌, List, [], ◌∷◌, length, get_or, drop, arith, refl, sym, ap, ◌∙◌, Bool, true, false, ◌||◌}
use Rattle.std.proofs.lemmas.List.{drop_more, length-drop}
use Rattle.ac_forms.specs.NormalForm.{clash, clash_after, has_clash}
use Rattle.ac_forms.specs.declared.row.Row.{Row}

at_front : (rs : List Row) (i : ℕ) (r s : Row) → i + 1 < length rs → r ≡ get_or rs i r → s ≡ get_or rs (i + 1) s → has_clash (drop i rs) ≡ (clash r s || has_clash (drop (i + 1) rs))
at_front rs i r s l er es =
    let d : drop i rs ≡ r ∷ drop (i + 1) rs = rw er (drop_more rs i r (omega arith)) in
    let e : drop (i + 1) rs ≡ s ∷ drop (i + 1 + 1) rs = rw es (drop_more rs (i + 1) s l) in
    rw (d, e) refl

-- before row i, no two neighbours among the rows so far clash
abbrev pub ClashHalfway : List Row → ℕ → Type 0
ClashHalfway rs i = (1 ≤ i) × (has_clash rs ≡ has_clash (drop (i - 1) rs))

pub clash_start : (rs : List Row) → ClashHalfway rs 1
clash_start rs = (omega arith, refl)

ahead : (rs : List Row) (i : ℕ) (r s : Row) → ClashHalfway rs i → i < length rs → r ≡ get_or rs (i - 1) r → s ≡ get_or rs i s → has_clash rs ≡ (clash r s || has_clash (drop i rs))
ahead rs i r s h l er es =
    let e : i - 1 + 1 ≡ i = omega (arith, h.0) in
    h.1 ∙ rw e at (at_front rs (i - 1) r s (omega (arith, h.0)) er (rw e es))

pub clash_passed : (rs : List Row) (i : ℕ) (r s : Row) (b : Bool) → ClashHalfway rs i → i < length rs → r ≡ get_or rs (i - 1) r → s ≡ get_or rs i s → b ≡ clash r s → b ≡ false → ClashHalfway rs (i + 1)
clash_passed rs i r s b h l er es eb e =
    let back : i + 1 - 1 ≡ i = omega arith in
    (omega arith, rw back (rw (← eb, e) at (ahead rs i r s h l er es)))

pub clash_found : (rs : List Row) (i : ℕ) (r s : Row) (b : Bool) → ClashHalfway rs i → i < length rs → r ≡ get_or rs (i - 1) r → s ≡ get_or rs i s → b ≡ clash r s → b ≡ true → true ≡ has_clash rs
clash_found rs i r s b h l er es eb e = sym (rw (← eb, e) at (ahead rs i r s h l er es))

short_list : (rs : List Row) → length rs ≤ 1 → false ≡ has_clash rs
short_list [] l = refl
short_list (r ∷ []) l = refl
short_list (r ∷ s ∷ rs) l = absurd (omega (arith, l))

pub clash_end : (rs : List Row) (i : ℕ) → ClashHalfway rs i → length rs ≤ i → false ≡ has_clash rs
clash_end rs i h l = short_list (drop (i - 1) rs) (omega (arith, length-drop (i - 1) rs)) ∙ sym h.1

pub ruleset clash_steps = (clash_start, clash_passed, clash_found, clash_end)
