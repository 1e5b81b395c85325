-- How many rows are raised, and where they stand, one row further.
use Rattle.std.proofs.Common.{◌≡◌, ℕ, zero, suc, ◌+◌, ◌<◌, ◌≤◌, ◌≢◌, true, false, cond, List, [], ◌∷◌, ◌++◌, length, take, drop, get_or, Some, slice_get, refl, sym, ap, ◌∙◌, arith, append_assoc}
use Rattle.std.proofs.lemmas.List.{at_drop_more}
use Rattle.ac_forms.specs.declared.row.Row.{Row}
use Rattle.ac_forms.specs.declared.row.Row.TheVariants.{Eq, Div, Ge}
use Rattle.ac_omega_steps.specs.Bounds.{is_low, low_bound, lows}
use Rattle.ac_omega_steps.specs.Choices.{is_lower_row}
use Rattle.ac_omega_certify.specs.ChoiceBranches.{lift_count, place_after, raised_place, raised_places}

lift-none : (ns : List ℕ) (i : ℕ) → i < length ns → get_or ns i 0 ≡ 0 → lift_count (take (suc i) ns) ≡ lift_count (take i ns)
lift-none [] i h e = absurd (omega arith)
lift-none (zero ∷ ns) zero h e = refl
lift-none (suc n ∷ ns) zero h e = absurd (omega arith)
lift-none (zero ∷ ns) (suc i) h e = lift-none ns i (omega arith) e
lift-none (suc n ∷ ns) (suc i) h e = ap (λ (k : ℕ). suc k) (lift-none ns i (omega arith) e)

lift-one : (ns : List ℕ) (i : ℕ) → i < length ns → 0 < get_or ns i 0 → lift_count (take (suc i) ns) ≡ suc (lift_count (take i ns))
lift-one [] i h e = absurd (omega arith)
lift-one (zero ∷ ns) zero h e = absurd (omega arith)
lift-one (suc n ∷ ns) zero h e = refl
lift-one (zero ∷ ns) (suc i) h e = lift-one ns i (omega arith) e
lift-one (suc n ∷ ns) (suc i) h e = ap (λ (k : ℕ). suc k) (lift-one ns i (omega arith) e)

-- one number more
pub lift_same : (ns : List ℕ) (i j : ℕ) → lift_count (take j ns) ≡ lift_count (take j ns) → j ≡ i + 1 → i < length ns → get_or ns i 0 ≤ 0 → lift_count (take j ns) ≡ lift_count (take i ns)
lift_same ns i j _ is h e = let s : j ≡ suc i = omega arith in rw s (lift-none ns i h (omega arith))

pub lift_more : (ns : List ℕ) (i j : ℕ) → j ≡ i + 1 → i < length ns → 0 < get_or ns i 0 → lift_count (take j ns) ≡ lift_count (take i ns) + 1
lift_more ns i j is h e = let s : j ≡ suc i = omega arith in rw s (lift-one ns i h e ∙ plus (lift_count (take i ns)))
  where
    plus : (n : ℕ) → suc n ≡ n + 1
    plus n = omega arith

pub ruleset lift_steps = (lift_same, lift_more)

drop-front : {A : Type 0} (xs : List A) (i : ℕ) (x : A) → i < length xs → x ≡ get_or xs i x → drop i xs ≡ x ∷ drop (i + 1) xs
drop-front xs i x h e = at_drop_more (λ y. y) xs i x h ∙ ap (λ y. y ∷ drop (i + 1) xs) (sym e)

pub place_none : (n p next : ℕ) → n ≡ 0 → raised_place n p next ≡ p
place_none zero p next e = refl
place_none (suc n) p next e = absurd (omega arith)

pub place_more : (n p next : ℕ) → n ≢ 0 → raised_place n p next ≡ next
place_more zero p next e = absurd (e refl)
place_more (suc n) p next e = refl

pub after_none : (n next : ℕ) → n ≡ 0 → place_after n next ≡ next
after_none zero next e = refl
after_none (suc n) next e = absurd (omega arith)

pub after_more : (n next : ℕ) → n ≢ 0 → place_after n next ≡ next + 1
after_more zero next e = absurd (e refl)
after_more (suc n) next e = refl

pub ruleset place_steps = (place_none, place_more, after_none, after_more)

one-step : (z : ℕ) (r : Row) (rs : List Row) (n : ℕ) (ns : List ℕ) (p : ℕ) (ps : List ℕ) (next : ℕ) → raised_places z (r ∷ rs) (n ∷ ns) (p ∷ ps) next ≡ cond (is_lower_row z (Some r)) (raised_place n p next ∷ []) [] ++ raised_places z rs ns ps (place_after n next)
one-step z r rs n ns p ps next =
    elim (is_lower_row z (Some r)) as (λ t. cond t (raised_place n p next ∷ raised_places z rs ns ps (place_after n next)) (raised_places z rs ns ps (place_after n next)) ≡ cond t (raised_place n p next ∷ []) [] ++ raised_places z rs ns ps (place_after n next)) [ true ↦ refl | false ↦ refl ]

pub raised_step : (z : ℕ) (rows : List Row) (counts places all made made' : List ℕ) (i next next' place : ℕ) (r : Row)
    → made ++ raised_places z (drop i rows) (drop i counts) (drop i places) next ≡ all → i < length rows → length counts ≡ length rows → length places ≡ length rows → r ≡ get_or rows i r
    → place ≡ raised_place (get_or counts i 0) (get_or places i 0) next → made' ≡ made ++ cond (is_lower_row z (Some r)) (place ∷ []) [] → next' ≡ place_after (get_or counts i 0) next
    → made' ++ raised_places z (drop (i + 1) rows) (drop (i + 1) counts) (drop (i + 1) places) next' ≡ all
raised_step z rows counts places all made made' i next next' place r e h lc lp is p m n =
    let n0 = get_or counts i 0 in
    let p0 = get_or places i 0 in
    let lower = cond (is_lower_row z (Some r)) (place ∷ []) [] in
    let rest = raised_places z (drop (i + 1) rows) (drop (i + 1) counts) (drop (i + 1) places) next' in
    let hc : i < length counts = omega arith in
    let hp : i < length places = omega arith in
    let dr : drop i rows ≡ r ∷ drop (i + 1) rows = drop-front rows i r h is in
    let dc : drop i counts ≡ n0 ∷ drop (i + 1) counts = number-front counts i hc in
    let dp : drop i places ≡ p0 ∷ drop (i + 1) places = number-front places i hp in
    let step = one-step z r (drop (i + 1) rows) n0 (drop (i + 1) counts) p0 (drop (i + 1) places) next in
    let here : raised_places z (drop i rows) (drop i counts) (drop i places) next ≡ lower ++ rest = rw (dr, dc, dp, p, n) step in
    ap (λ (xs : List ℕ). xs ++ rest) m ∙ append_assoc made lower rest ∙ ap (λ (xs : List ℕ). made ++ xs) (sym here) ∙ e
  where
    number-front : (xs : List ℕ) (i : ℕ) → i < length xs → drop i xs ≡ get_or xs i 0 ∷ drop (i + 1) xs
    number-front [] i h = absurd (omega arith)
    number-front (x ∷ xs) zero h = refl
    number-front (x ∷ xs) (suc i) h = number-front xs i (omega arith) ∙ ap (λ (k : ℕ). get_or xs i 0 ∷ drop k (x ∷ xs)) (more i)
      where
        more : (i : ℕ) → suc (i + 1) ≡ suc i + 1
        more i = omega arith

-- there is a place for each lower row
pub raised-length : (z : ℕ) (rs : List Row) (ns ps : List ℕ) (next : ℕ) → length ns ≡ length rs → length ps ≡ length rs → length (raised_places z rs ns ps next) ≡ length (lows z rs)
raised-length z [] ns ps next e f = refl
raised-length z (r ∷ rs) [] ps next e f = absurd (omega (arith, e))
raised-length z (r ∷ rs) (n ∷ ns) [] next e f = absurd (omega (arith, f))
raised-length z (Eq g ∷ rs) (n ∷ ns) (p ∷ ps) next e f = raised-length z rs ns ps (place_after n next) (omega (arith, e)) (omega (arith, f))
raised-length z (Div m g ∷ rs) (n ∷ ns) (p ∷ ps) next e f = raised-length z rs ns ps (place_after n next) (omega (arith, e)) (omega (arith, f))
raised-length z (Ge g ∷ rs) (n ∷ ns) (p ∷ ps) next e f =
    let rest = raised-length z rs ns ps (place_after n next) (omega (arith, e)) (omega (arith, f)) in
    elim (is_low z g) as (λ t. length (cond t (raised_place n p next ∷ raised_places z rs ns ps (place_after n next)) (raised_places z rs ns ps (place_after n next))) ≡ length (cond t (low_bound z g ∷ lows z rs) (lows z rs))) [
      | true ↦ ap (λ (k : ℕ). suc k) rest
      | false ↦ rest
    ]

pub at-within : {A : Type 0} (xs : List A) (i : ℕ) (x : A) → slice_get xs i ≡ Some x → i < length xs
at-within [] i x e = absurd cc
at-within (y ∷ xs) zero x e = omega arith
at-within (y ∷ xs) (suc i) x e = omega (arith, at-within xs i x e)
