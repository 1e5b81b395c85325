-- The need of a lower row, one upper row further.
use Rattle.std.proofs.Common.{◌≡◌, ℕ, ◌+◌, ◌<◌, ◌≤◌, ℤ, pos, ◌≤ℤ◌, List, [], ◌∷◌, drop, length, get_or, Bool, true, false, cond, ◌&&◌, to_z, of_z, Err, arith, refl, ap, sym, ◌∙◌}
use Rattle.std.specs.Int.{int_max, w128}
use Rattle.std.proofs.lemmas.List.{at_drop_all}
use Rattle.std.proofs.lemmas.Int.{ints, clamps}
use Rattle.ac_base.proofs.Bits.{again_128}
use Rattle.ac_forms.specs.Fits.{Fits}
use Rattle.ac_forms.specs.FormStops.{IfWide}
use Rattle.ac_forms.specs.declared.stop.FormStop.{FormStop}
use Rattle.ac_forms.specs.declared.stop.FormStop.TheVariants.{Wide, Memory}
use Rattle.ac_forms.specs.declared.row.Row.{Row}
use Rattle.ac_forms.specs.declared.row.Row.TheVariants.{Eq, Div, Ge}
use Rattle.ac_omega_steps.specs.declared.column.Bound.{Bound}
use Rattle.ac_omega_steps.specs.Bounds.{is_high, high_bound, highs}
use Rattle.ac_omega_steps.proofs.Parts.{drop-at}
use Rattle.ac_base.proofs.Truths.{and-true}
use Rattle.ac_omega_exact.specs.ExactnessTests.{greatest_failing, pair_fits, pairs_fit}
use Rattle.ac_omega_exact.proofs.Implying.{failing-some}

-- a row that is no upper one adds nothing
one-first : (m : ℤ) → pos 1 ≤ℤ m → m ≡ int_max (pos 1) m
one-first m h = omega (arith, ints, clamps)

size-first : (a m : ℤ) → pos 1 ≤ℤ m → int_max a m ≡ int_max (int_max a (pos 1)) m
size-first a m h = omega (arith, ints, clamps)

failing-cons : (P : Bound → Bool) (z : ℕ) (r : Row) (rs : List Row) → greatest_failing P (highs z (r ∷ rs)) ≡ int_max (greatest_failing P (highs z (r ∷ []))) (greatest_failing P (highs z rs))
failing-cons P z (Eq f) rs = one-first _ (failing-some P (highs z rs))
failing-cons P z (Div m f) rs = one-first _ (failing-some P (highs z rs))
failing-cons P z (Ge f) rs =
    elim (is_high z f) as (λ t. greatest_failing P (cond t (high_bound z f ∷ highs z rs) (highs z rs)) ≡ int_max (greatest_failing P (cond t (high_bound z f ∷ []) [])) (greatest_failing P (highs z rs))) [
      | true ↦ by (P (high_bound z f))
      | false ↦ one-first _ (failing-some P (highs z rs))
    ]
  where
    by : (t : Bool) → cond t (greatest_failing P (highs z rs)) (int_max (high_bound z f).size (greatest_failing P (highs z rs))) ≡ int_max (cond t (pos 1) (int_max (high_bound z f).size (pos 1))) (greatest_failing P (highs z rs))
    by true = one-first _ (failing-some P (highs z rs))
    by false = size-first (high_bound z f).size _ (failing-some P (highs z rs))

and-one : (a b : Bool) → (a && b) ≡ ((a && true) && b)
and-one true b = refl
and-one false b = refl

pairs-cons : (low : Bound) (z : ℕ) (r : Row) (rs : List Row) → pairs_fit low (highs z (r ∷ rs)) ≡ (pairs_fit low (highs z (r ∷ [])) && pairs_fit low (highs z rs))
pairs-cons low z (Eq f) rs = refl
pairs-cons low z (Div m f) rs = refl
pairs-cons low z (Ge f) rs =
    elim (is_high z f) as (λ t. pairs_fit low (cond t (high_bound z f ∷ highs z rs) (highs z rs)) ≡ (pairs_fit low (cond t (high_bound z f ∷ []) []) && pairs_fit low (highs z rs))) [
      | true ↦ and-one (pair_fits low (high_bound z f)) (pairs_fit low (highs z rs))
      | false ↦ refl
    ]

-- the need so far, and that for the rows that are left
pub record NeedSoFar (passes : Bound → Bool) (low : Bound) (z : ℕ) (need : ℤ) (rows left : List Row) : Type 0 where
  pub value : greatest_failing passes (highs z rows) ≡ int_max need (greatest_failing passes (highs z left))
  pub fits : pairs_fit low (highs z rows) ≡ pairs_fit low (highs z left)
  pub positive : pos 1 ≤ℤ need

pub need_start : (passes : Bound → Bool) (low : Bound) (z : ℕ) (rows : List Row) → NeedSoFar passes low z (pos 1) rows rows
need_start passes low z rows = record { value = one-first _ (failing-some passes (highs z rows)); fits = refl; positive = omega (arith, ints) }

max-three : (a b c : ℤ) → int_max a (int_max b c) ≡ int_max (int_max a b) c
max-three a b c = omega (arith, ints, clamps)

pub need-more : (passes : Bound → Bool) (low : Bound) (z i : ℕ) (rows : List Row) (r : Row) (m size next : ℤ) → NeedSoFar passes low z m rows (drop i rows) → i < length rows → r ≡ get_or rows i r
    → pairs_fit low (highs z (r ∷ [])) ≡ true → size ≡ greatest_failing passes (highs z (r ∷ [])) → Fits size → Fits next → next ≡ int_max m (to_z w128 (of_z w128 size))
    → NeedSoFar passes low z (to_z w128 (of_z w128 next)) rows (drop (i + 1) rows)
need-more passes low z i rows r m size next held h e fit is f g n =
    let d = drop-at rows i r h e in
    let is_next : next ≡ int_max m size = n ∙ ap (int_max m) (again_128 size f) in
    let at_value = rw (d, failing-cons passes z r (drop (i + 1) rows), ← is) at held.value in
    let at_fits = rw (d, pairs-cons low z r (drop (i + 1) rows), fit) at held.fits in
    rw (again_128 next g) record {
      value = at_value ∙ max-three m size _ ∙ ap (λ x. int_max x (greatest_failing passes (highs z (drop (i + 1) rows)))) (sym is_next);
      fits = at_fits;
      positive = above m size next held.positive is_next;
    }
  where
    above : (m size next : ℤ) → pos 1 ≤ℤ m → next ≡ int_max m size → pos 1 ≤ℤ next
    above m size next h e = omega (arith, ints, clamps)

pub need-stop : (passes : Bound → Bool) (low : Bound) (z i : ℕ) (rows : List Row) (r : Row) (m : ℤ) → NeedSoFar passes low z m rows (drop i rows) → i < length rows → r ≡ get_or rows i r → ¬ (pairs_fit low (highs z (r ∷ [])) ≡ true)
    → ¬ (pairs_fit low (highs z rows) ≡ true)
need-stop passes low z i rows r m held h e n all =
    n ((and-true (pairs_fit low (highs z (r ∷ []))) (pairs_fit low (highs z (drop (i + 1) rows))) (rw (drop-at rows i r h e, pairs-cons low z r (drop (i + 1) rows)) at (sym held.fits ∙ all))).0)

-- so the call stops there for the same reason
pub need-err : (passes : Bound → Bool) (low : Bound) (z i : ℕ) (rows : List Row) (r : Row) (m : ℤ) (stop : FormStop) → NeedSoFar passes low z m rows (drop i rows) → i < length rows → r ≡ get_or rows i r
    → IfWide stop (¬ (pairs_fit low (highs z (r ∷ [])) ≡ true)) → IfWide stop (¬ (pairs_fit low (highs z rows) ≡ true))
need-err passes low z i rows r m Wide held h e n = need-stop passes low z i rows r m held h e n
need-err passes low z i rows r m (Memory want) held h e n = tt

pub need-end : (passes : Bound → Bool) (low : Bound) (z i : ℕ) (rows : List Row) (m : ℤ) → NeedSoFar passes low z m rows (drop i rows) → length rows ≤ i → (pairs_fit low (highs z rows) ≡ true) × (m ≡ greatest_failing passes (highs z rows))
need-end passes low z i rows m held h =
    (held.fits ∙ at_drop_all (λ x. pairs_fit low (highs z x)) rows i h, sym (held.value ∙ at_drop_all (λ x. int_max m (greatest_failing passes (highs z x))) rows i h ∙ least_max m held.positive))
  where
    least_max : (m : ℤ) → pos 1 ≤ℤ m → int_max m (pos 1) ≡ m
    least_max m h = omega (arith, ints, clamps)
