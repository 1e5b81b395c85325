-- The one choice for the next column of rows of differences.
use Rattle.std.proofs.Common.{◌≡◌, ◌⊎◌, inl, inr, ℕ, suc, ◌+◌, ◌<◌, ◌^◌, cond, Bool, true, false, ◌&&◌, ◌||◌, ℤ, pos, negsuc, List, [], ◌∷◌, ◌++◌, length, set, slice_get, Option, Some, None, arith, refl, ap, sym, subst}
use Rattle.std.specs.Int.{int_max}
use Rattle.ac_forms.specs.Affine.{Affine, coef}
use Rattle.ac_forms.specs.declared.row.Row.{Row}
use Rattle.ac_forms.specs.declared.row.Row.TheVariants.{Eq, Div, Ge}
use Rattle.ac_omega_steps.specs.declared.column.Bound.{Bound}
use Rattle.ac_omega_steps.specs.declared.choose.Choice.{Choice}
use Rattle.ac_omega_steps.specs.declared.choose.Choice.TheVariants as choice
use Rattle.ac_omega_steps.specs.Bounds.{is_low, low_bound, lows, highs, rows_without, is_none, is_one_sided, greatest_size}
use Rattle.ac_forms.specs.RowColumns.{has_column}
use Rattle.ac_omega_steps.specs.Choices.{is_equality_of, by_equality, shadow_form, shadows, left_by, lifted, solved}
use Rattle.ac_omega_steps.specs.ChoiceFits.{choice_fits, equality_fits, sizes_fit, shadow_fits, shadows_fit, lift_fits, solved_fits}
use Rattle.ac_forms.specs.Fits.{fits}
use Rattle.ac_forms.specs.RangeTests.{normal_fits}
use Rattle.ac_omega_exact.specs.ExactnessTests.{greatest_failing, is_exact, pair_fits, pairs_fit}
use Rattle.ac_omega_certify.specs.Alternatives.{Alternatives, first_equality, has_divisibility, alternatives_for, need_of, splinters_by, splinters}
use Rattle.ac_omega.specs.Maxima.{Maxima, with_choice}
use Rattle.ac_omega_certify.proofs.Tried.{equality-found}
use Rattle.ac_omega.proofs.DifferenceForms.{unit-at}
use Rattle.ac_omega.proofs.DifferenceRows.{IsOver, IsRow, IsRaw, Each}
use Rattle.ac_omega.proofs.DifferenceNormals.{both-true, row-fits}
use Rattle.ac_omega.proofs.DifferenceChoices.{leave, sign-of, each-at, each-append, equality-each}
use Rattle.ac_omega.proofs.DifferenceShadows.{IsBound, EachBound, each-free, each-low, each-high, each-shadow, shadow-over, low-one}
use Rattle.ac_omega.proofs.DifferenceFits.{equality-fit, sizes-fit, shadow-fit, shadows-fit}
use Rattle.ac_omega.proofs.DifferencePoints.{AreWithin, GoesBack, between-back, solved-back}
use Rattle.ac_omega_certify.specs.declared.strategy.Strategy.{Strategy}
use Rattle.ac_omega_certify.specs.declared.strategy.Strategy.TheVariants.{Full, Economical}

-- one choice, which stays in `i128`, and what it leaves and takes back
pub record OneChoice (strategy : Strategy) (vars : List ℕ) (b z : ℕ) (rows : List Row) : Type 0 where
  pub one : Choice
  pub tries : alternatives_for strategy z rows ≡ Some one ∷ []
  pub fits : choice_fits one rows ≡ true
  pub left : Each (IsRaw (leave z vars) (b + b)) (left_by one rows)
  pub mark : (s : Maxima) → with_choice one s ≡ s
  pub back : (v : ℕ) (p : List ℤ) → z < length p → AreWithin v p → v + v + b < 2 ^ 127 → GoesBack (lift_fits one rows p) (v + b) p (lifted one rows p)

-- by an equality
equality-row : (z : ℕ) (o : Option Row) → is_equality_of z o ≡ true → (g : Affine) × (o ≡ Some (Eq g)) × (has_column z (Eq g) ≡ true)
equality-row z None e = absurd cc
equality-row z (Some (Eq f)) e = (f, refl, e)
equality-row z (Some (Div m f)) e = absurd cc
equality-row z (Some (Ge f)) e = absurd cc

by-equal : (strategy : Strategy) (vars : List ℕ) (b z i : ℕ) (rows : List Row) → b + b < 2 ^ 127 → Each (IsRow vars b) rows → first_equality z 0 rows ≡ Some i → OneChoice strategy vars b z rows
unfolding alternatives_for
by-equal strategy vars b z i rows room h e =
    let found = equality-found z 0 i rows e in
    let k = found.0 in
    let row = equality-row z (slice_get rows k) found.2 in
    let g = row.0 in
    let good = (each-at (IsRow vars b) k rows (Eq g) h row.1).0 in
    let s = sign-of (coef z g) (unit-at (λ j. coef j g) good.difference z) row.2 in
    let same : i ≡ k = omega (arith, found.1) in
    record {
      one = choice.Equal z k;
      tries = rw e (ap (λ (x : ℕ). Some (choice.Equal z x) ∷ []) same);
      fits = subst (λ (o : Option Row). equality_fits z k o rows ≡ true) (sym row.1) (equality-fit vars b z k g rows room good s h);
      left = subst (λ (o : Option Row). Each (IsRaw (leave z vars) (b + b)) (by_equality z k o rows)) (sym row.1) (equality-each vars b z k g rows good s h);
      mark = λ t. refl;
      back = λ v p l w r. subst (λ (o : Option Row). GoesBack (solved_fits z o p) (v + b) p (set p z (solved z o p))) (sym row.1) (solved-back vars b v z g p good s l w r);
    }

-- without divisibilities
undivided : (vars : List ℕ) (b z : ℕ) (rows : List Row) → Each (IsRow vars b) rows → has_divisibility z rows ≡ false
undivided vars b z [] h = refl
undivided vars b z (Eq f ∷ rs) h = undivided vars b z rs h.1
undivided vars b z (Div m f ∷ rs) h = absurd h.0
undivided vars b z (Ge f ∷ rs) h = undivided vars b z rs h.1

by-drop : (strategy : Strategy) (vars : List ℕ) (b z : ℕ) (rows : List Row) → Each (IsRow vars b) rows → first_equality z 0 rows ≡ None → is_one_sided z rows ≡ true → OneChoice strategy vars b z rows
unfolding alternatives_for
by-drop strategy vars b z rows h e t = record {
  one = choice.Drop z;
  tries = rw (e, undivided vars b z rows h, t) refl;
  fits = refl;
  left = each-free vars b z rows h;
  mark = λ s. refl;
  back = λ v p l w r. between-back vars b v z rows p h l w r;
}

-- the splinters of bounds of size 1
greatest-bit : (vars : List ℕ) (b z : ℕ) (c : ℤ) (ds : List Bound) → EachBound (IsBound vars b z c) ds → (greatest_size ds ≡ pos 0) ⊎ (greatest_size ds ≡ pos 1)
greatest-bit vars b z c [] h = inl refl
greatest-bit vars b z c (d ∷ ds) h = inr (by d.size (greatest_size ds) h.0.size (greatest-bit vars b z c ds h.1))
  where
    by : (x y : ℤ) → x ≡ pos 1 → (y ≡ pos 0) ⊎ (y ≡ pos 1) → int_max x y ≡ pos 1
    by x y e (inl f) = rw (e, f) refl
    by x y e (inr f) = rw (e, f) refl

greatest-one : (vars : List ℕ) (b z : ℕ) (c : ℤ) (ds : List Bound) → EachBound (IsBound vars b z c) ds → is_none ds ≡ false → greatest_size ds ≡ pos 1
greatest-one vars b z c [] h e = absurd cc
greatest-one vars b z c (d ∷ ds) h e = by d.size (greatest_size ds) h.0.size (greatest-bit vars b z c ds h.1)
  where
    by : (x y : ℤ) → x ≡ pos 1 → (y ≡ pos 0) ⊎ (y ≡ pos 1) → int_max x y ≡ pos 1
    by x y e (inl f) = rw (e, f) refl
    by x y e (inr f) = rw (e, f) refl

-- each pair is worth none
failing-one : (vars : List ℕ) (b z : ℕ) (c : ℤ) (passes : Bound → Bool) (ds : List Bound) → EachBound (IsBound vars b z c) ds → greatest_failing passes ds ≡ pos 1
failing-one vars b z c passes [] h = refl
failing-one vars b z c passes (d ∷ ds) h = by d.size (passes d) (greatest_failing passes ds) h.0.size (failing-one vars b z c passes ds h.1)
  where
    by : (x : ℤ) (t : Bool) (y : ℤ) → x ≡ pos 1 → y ≡ pos 1 → cond t y (int_max x y) ≡ pos 1
    by x true y e f = f
    by x false y e f = rw (e, f) refl

pair-fits : (vars : List ℕ) (b z : ℕ) (low high : Bound) → b + b < 2 ^ 127 → IsBound vars b z (pos 1) low → IsBound vars b z (negsuc 0) high → pair_fits low high ≡ true
pair-fits vars b z low high room l h =
    both-true (fits high.size) (shadow_fits low high && normal_fits (Ge (shadow_form low high))) (rw (h.size) refl)
    (both-true (shadow_fits low high) (normal_fits (Ge (shadow_form low high))) (shadow-fit vars b z low high room l h)
    (row-fits (leave z vars) (b + b) (Ge (shadow_form low high)) room (shadow-over vars b z low high l h)))

pairs-fit : (vars : List ℕ) (b z : ℕ) (low : Bound) (ds : List Bound) → b + b < 2 ^ 127 → IsBound vars b z (pos 1) low → EachBound (IsBound vars b z (negsuc 0)) ds → pairs_fit low ds ≡ true
pairs-fit vars b z low [] room l h = refl
pairs-fit vars b z low (d ∷ ds) room l h = both-true (pair_fits low d) (pairs_fit low ds) (pair-fits vars b z low d room l h.0) (pairs-fit vars b z low ds room l h.1)

-- a lower row has its splinters for the size 1
need-one : (strategy : Strategy) (vars : List ℕ) (b z : ℕ) (rows : List Row) (f : Affine) → b + b < 2 ^ 127 → Each (IsRow vars b) rows → is_none (highs z rows) ≡ false → IsOver vars b f → coef z f ≡ pos 1 → need_of strategy z rows f ≡ Some (pos 1)
need-one Full vars b z rows f room h n over e =
    let hs = each-high vars b z rows h in
    rw (sizes-fit vars b z (negsuc 0) (highs z rows) hs, greatest-one vars b z (negsuc 0) (highs z rows) hs n) refl
need-one Economical vars b z rows f room h n over e =
    let hs = each-high vars b z rows h in
    rw (pairs-fit vars b z (low_bound z f) (highs z rows) room (record { form = f; over = over; at = e; size = e; rest = refl }) hs, failing-one vars b z (negsuc 0) (is_exact z rows (low_bound z f)) (highs z rows) hs) refl

row-splinters : (need : Option ℤ) (c : ℤ) (z i : ℕ) → need ≡ Some (pos 1) → c ≡ pos 1 → splinters_by need z i c ≡ []
row-splinters need c z i e f = rw (e, f) refl

no-splinters : (strategy : Strategy) (vars : List ℕ) (b z i : ℕ) (rows rs : List Row) → b + b < 2 ^ 127 → Each (IsRow vars b) rows → is_none (highs z rows) ≡ false → Each (IsRow vars b) rs → splinters strategy z rows i rs ≡ []
no-splinters strategy vars b z i rows [] room g n h = refl
no-splinters strategy vars b z i rows (Eq f ∷ rs) room g n h = no-splinters strategy vars b z (suc i) rows rs room g n h.1
no-splinters strategy vars b z i rows (Div m f ∷ rs) room g n h = absurd h.0
no-splinters strategy vars b z i rows (Ge f ∷ rs) room g n h = by (is_low z f) refl (no-splinters strategy vars b z (suc i) rows rs room g n h.1)
  where
    by : (t : Bool) → is_low z f ≡ t → splinters strategy z rows (suc i) rs ≡ [] → cond t (splinters_by (need_of strategy z rows f) z i (coef z f)) [] ++ splinters strategy z rows (suc i) rs ≡ []
    by true l m =
        let e = low-one (coef z f) (unit-at (λ j. coef j f) h.0.0.difference z) l in
        rw (row-splinters (need_of strategy z rows f) (coef z f) z i (need-one strategy vars b z rows f room g n h.0.0 e) e) m
    by false l m = m

or-false : (a b : Bool) → (a || b) ≡ false → b ≡ false
or-false true b e = absurd cc
or-false false b e = e

by-shadow : (strategy : Strategy) (vars : List ℕ) (b z : ℕ) (rows : List Row) → b + b < 2 ^ 127 → Each (IsRow vars b) rows → first_equality z 0 rows ≡ None → is_one_sided z rows ≡ false → OneChoice strategy vars b z rows
unfolding alternatives_for
by-shadow strategy vars b z rows room h e t =
    let ls = each-low vars b z rows h in
    let hs = each-high vars b z rows h in
    let s = sizes-fit vars b z (negsuc 0) (highs z rows) hs in
    let n = no-splinters strategy vars b z 0 rows rows room h (or-false (is_none (lows z rows)) (is_none (highs z rows)) t) h in
    record {
      one = choice.Shadow z;
      tries = rw (e, undivided vars b z rows h, t) (ap (λ (xs : Alternatives). Some (choice.Shadow z) ∷ xs) n);
      fits = both-true (sizes_fit (highs z rows)) (shadows_fit (lows z rows) (highs z rows)) s (shadows-fit vars b z (lows z rows) (highs z rows) room ls hs);
      left = each-append (IsRaw (leave z vars) (b + b)) (rows_without z rows) (shadows (lows z rows) (highs z rows)) (each-free vars b z rows h) (each-shadow vars b z (lows z rows) (highs z rows) ls hs);
      mark = λ s. refl;
      back = λ v p l w r. between-back vars b v z rows p h l w r;
    }

pub one-choice : (strategy : Strategy) (vars : List ℕ) (b z : ℕ) (rows : List Row) → b + b < 2 ^ 127 → Each (IsRow vars b) rows → OneChoice strategy vars b z rows
one-choice strategy vars b z rows room h = by (first_equality z 0 rows) refl (is_one_sided z rows) refl
  where
    by : (o : Option ℕ) → first_equality z 0 rows ≡ o → (t : Bool) → is_one_sided z rows ≡ t → OneChoice strategy vars b z rows
    by (Some i) e t f = by-equal strategy vars b z i rows room h e
    by None e true f = by-drop strategy vars b z rows h e f
    by None e false f = by-shadow strategy vars b z rows room h e f
