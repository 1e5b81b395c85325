-- The rows of a quotient over the columns before fit in `i128` wherever behind them it stands.
use Rattle.std.proofs.Common.{◌≡◌, ◌⊎◌, inl, inr, ℕ, zero, suc, ◌+◌, ◌<◌, ◌≤◌, ℤ, pos, negsuc, neg_ℤ, ◌+ℤ◌, ◌*ℤ◌, List, [], ◌∷◌, ◌++◌, length, sym, ◌∙◌, subst, arith}
use Rattle.std.specs.List.{AllByRecursion}
use Rattle.std.proofs.lemmas.Bool.{cases_lt}
use Rattle.std.proofs.lemmas.Int.{ints}
use Rattle.std.proofs.lemmas.List.{get_or_past}
use Rattle.ac_forms.specs.Affine.{Affine, coef, column_form, mix_numbers, CanAddTimes, CanCombine}
use Rattle.ac_forms.specs.Fits.{Fits, AllFit}
use Rattle.ac_forms.specs.ListMembers.{IsAmong}
use Rattle.ac_poly_quotients.specs.LastRange.{CanTellOne, CanTell}
use Rattle.ac_poly_quotients.specs.declared.types.Rounded.{Rounded}
use Rattle.ac_poly_quotients.proofs.FormValues.{Narrow}
use Rattle.ac_top.proofs.ColumnSums.{Fits_0, unit, unit_is, can_add, can_add_times}

-- a coefficient past a form is 0
pub past : (f : Affine) (n i : ℕ) → Narrow n f → n ≤ i → coef i f ≡ pos 0
past f n i w l = get_or_past f.coefs i (pos 0) (omega (arith, w, l))

added_behind : (n k l : ℕ) (f : Affine) (c : ℤ) → Narrow n f → n ≤ k → n ≤ l → CanAddTimes f c (column_form (k + 1) k) → CanAddTimes f c (column_form (l + 1) l)
added_behind n k l f c w a b h =
    let can = can_add f c k h in
    can_add_times f c l
    (record {
      before = λ i less. by i can.before (cases_lt i n);
      coefficient = can.coefficient;
      sum = subst (λ z. Fits (z +ℤ c)) (past f n k w a ∙ sym (past f n l w b)) can.sum;
      konst = can.konst;
    })
  where
    by : (i : ℕ) → ((i : ℕ) → i < k → Fits (coef i f)) → (i < n) ⊎ (n ≤ i) → Fits (coef i f)
    by i h (inl less) = h i (omega (arith, less, a))
    by i h (inr more) = subst Fits (sym (past f n i w more)) Fits_0

times_none : (d : ℤ) → d *ℤ pos 0 ≡ pos 0
times_none d = omega (arith, ints)

-- a column alone
alone_behind : (d l : ℤ) (k m : ℕ) → AllFit (mix_numbers d (unit k) l []) → AllFit (mix_numbers d (unit m) l [])
alone_behind d l zero zero h = h
alone_behind d l (suc k) m h = alone_behind d l k m h.1
alone_behind d l zero (suc m) h = (subst Fits (sym (times_none d)) Fits_0, alone_behind d l zero m h)

mixed_behind : (d l : ℤ) (cs : List ℤ) (k m : ℕ) → length cs ≤ k → length cs ≤ m → AllFit (mix_numbers d (unit k) l cs) → AllFit (mix_numbers d (unit m) l cs)
mixed_behind d l [] k m a b h = alone_behind d l k m h
mixed_behind d l (c ∷ cs) zero m a b h = absurd (omega arith)
mixed_behind d l (c ∷ cs) (suc k) zero a b h = absurd (omega arith)
mixed_behind d l (c ∷ cs) (suc k) (suc m) a b h = (h.0, (h.1.0, (h.1.1.0, mixed_behind d l cs k m (omega arith) (omega arith) h.1.1.1)))

combined_behind : (n k m : ℕ) (f : Affine) (d l : ℤ) → Narrow n f → n ≤ k → n ≤ m → CanCombine d (column_form (k + 1) k) l f → CanCombine d (column_form (m + 1) m) l f
combined_behind n k m f d l w a b h =
    let g = subst (λ x. CanCombine d x l f) (unit_is k) h in
    subst (λ x. CanCombine d x l f) (sym (unit_is m)) (mixed_behind d l f.coefs k m (omega (arith, w, a)) (omega (arith, w, b)) g.0, g.1)

pub told_behind : (n k l : ℕ) (r : Rounded) → Narrow n r.form → n ≤ k → n ≤ l → CanTellOne k r → CanTellOne l r
told_behind n k l r w a b h = (added_behind n k l r.form (neg_ℤ r.div) w a b h.0, combined_behind n k l r.form r.div (negsuc 0) w a b h.1, h.2)

-- ---- several, one behind another

pub tell_front : (k : ℕ) (rs ss : List Rounded) → CanTell k (rs ++ ss) → CanTell k rs × CanTell (k + length rs) ss
tell_front k [] ss h = let e : k + 0 ≡ k = omega arith in (tt, rw e h)
tell_front k (r ∷ rs) ss h = let t = tell_front (k + 1) rs ss h.1 in let e : k + suc (length rs) ≡ (k + 1) + length rs = omega arith in ((h.0, t.0), rw e t.1)

pub tell_joined : (k : ℕ) (rs ss : List Rounded) → CanTell k rs → CanTell (k + length rs) ss → CanTell k (rs ++ ss)
tell_joined k [] ss h g = let e : k + 0 ≡ k = omega arith in rw e at g
tell_joined k (r ∷ rs) ss h g = let e : k + suc (length rs) ≡ (k + 1) + length rs = omega arith in (h.0, tell_joined (k + 1) rs ss h.1 (rw e at g))

-- the row of one of them
told_one : (n k : ℕ) (rs : List Rounded) (r : Rounded) → AllByRecursion (λ x. Narrow n x.form) rs → n ≤ k → IsAmong r rs → CanTell k rs → CanTellOne n r
told_one n k [] r w a i h = absurd i
told_one n k (x ∷ rs) r w a (inl e) h = subst (CanTellOne n) (sym e) (told_behind n k n x w.0 a (omega arith) h.0)
told_one n k (x ∷ rs) r w a (inr i) h = told_one n (k + 1) rs r w.1 (omega (arith, a)) i h.1

-- quotients that are all among others can be told where those can
pub told_others : (n k l : ℕ) (rs ss : List Rounded) → AllByRecursion (λ x. Narrow n x.form) rs → AllByRecursion (λ x. Narrow n x.form × IsAmong x rs) ss → n ≤ k → n ≤ l → CanTell k rs → CanTell l ss
told_others n k l rs [] w i a b h = tt
told_others n k l rs (s ∷ ss) w i a b h = (told_behind n n l s i.0.0 (omega arith) b (told_one n k rs s w a i.0.1 h), told_others n k (l + 1) rs ss w i.1 a (omega (arith, b)) h)
