-- The numbers of the rows that are shown for exact pairs stay in `i128`, and those of the test of pairs.
use Rattle.std.proofs.Common.{◌≡◌, inl, inr, ◌==◌, zero, suc, ℕ, ◌<◌, ◌≤◌, ◌^◌, ℤ, pos, ◌+ℤ◌, ◌-ℤ◌, ◌*ℤ◌, neg_ℤ, ◌≤ℤ◌, Bool, true, false, ◌&&◌, cond, int_le, List, [], ◌∷◌, get_or, set, slice_get, length, Some, unsigned_abs, arith, refl, ap, subst, ◌∙◌}
use Rattle.std.proofs.lemmas.Int.{ints}
use Rattle.std.proofs.lemmas.Option.{slice_get_read}
use borrow.Author.Tests.{eqb-false}
use Rattle.ac_base.proofs.Columns.{get_or-mix}
use Rattle.ac_base.specs.Gcd.{content}
use Rattle.ac_forms.specs.Affine.{Affine, coef, combined, mix_numbers, MixFits, CanCombine}
use Rattle.ac_forms.specs.Fits.{fits, all_fit, AllFit}
use Rattle.ac_forms.specs.NormalRows.{absolutes, divided, normal_ge}
use Rattle.ac_forms.specs.RangeTests.{can_combine, normal_fits}
use Rattle.ac_forms.specs.declared.normal.NormalRow.{NormalRow}
use Rattle.ac_forms.specs.declared.normal.NormalRow.TheVariants.{Kept, Dropped, Absurd}
use Rattle.ac_forms.specs.declared.row.Row.{Row}
use Rattle.ac_forms.specs.declared.row.Row.TheVariants.{Ge}
use Rattle.ac_forms.proofs.Twins.{all_fit-is}
use Rattle.ac_omega_steps.specs.Bounds.{is_high, low_bound, high_bound, without}
use Rattle.ac_omega_steps.specs.ChoiceFits.{shadow_fits}
use Rattle.ac_omega_steps.specs.Choices.{shadow_form}
use Rattle.ac_omega_steps.proofs.Fitting.{fits_true}
use Rattle.ac_omega_exact.specs.Exact.{real_form}
use Rattle.ac_omega_exact.specs.ExactnessTests.{is_same_left, pair_fits}
use Rattle.ac_omega_certify.specs.Descents.{IsFormUpTo2To122}
use Rattle.ac_omega_certify.specs.Refutations.{AreWithin2To120, AreRowsWithin, IsRowWithin, IsFormWithin}
use Rattle.ac_omega_certify.specs.ShadowSteps.{dark_gap}
use Rattle.ac_omega_certify.specs.ShadowRows.{left_or, shown_form}
use Rattle.ac_omega_certify.specs.TreePathRows.{Blends, CanRaise}
use Rattle.ac_omega_certify.specs.SplinterCounts.{is_enough}
use Rattle.ac_omega_certify.proofs.Moderate.{product-size, sum_size, fits_within, number_small, cleared}
use Rattle.ac_omega_certify.proofs.ModerateSplinters.{less_size}
use Rattle.ac_omega_certify.proofs.Quotients.{coef-divided}
use Rattle.ac_omega_certify.proofs.Renaming.{fits-zero, times_zero, none_fits, blends-can}
use Rattle.ac_omega_certify.proofs.ShadowNumbers.{IsPair, shadow-moderate, pair-blends, dark_gap-fits, shadow-fits}
use Rattle.ac_omega_certify.proofs.Shadowed.{shadow-is, high-size, plain-pair, size-fits}
use Rattle.ac_omega_certify.proofs.ShownSteps.{real-is}
use Rattle.ac_omega_certify.proofs.SmallNumbers.{floor_small, once_small}

-- ---- the forms that are shown

real-moderate : (f g : Affine) (a b n : ℤ) → IsPair f g a b n → IsFormUpTo2To122 (combined a f b g)
real-moderate f g a b n p =
    let k = product-size a f.konst p.factor p.number (2 ^ 120) p.size p.low.konst p.product in
    let h = product-size b g.konst p.factor p.number (2 ^ 120) p.other p.high.konst p.product in
    let s = sum_size (a *ℤ f.konst) (b *ℤ g.konst) in
    record { konst = omega arith; coefs = λ j. each j }
  where
    each : (j : ℕ) → unsigned_abs (coef j (combined a f b g)) ≤ 2 ^ 122
    each j =
        let x = product-size a (coef j f) p.factor p.number (2 ^ 120) p.size (p.low.coefs j) p.product in
        let y = product-size b (coef j g) p.factor p.number (2 ^ 120) p.other (p.high.coefs j) p.product in
        let s = sum_size (a *ℤ coef j f) (b *ℤ coef j g) in
        rw (get_or-mix a f.coefs b g.coefs j) (omega arith)

normal-moderate : (d : ℕ) (s : Affine) → 0 < d → IsFormUpTo2To122 s → IsFormUpTo2To122 (divided (pos d) s)
normal-moderate d s h m =
    let k = floor_small s.konst d h in
    let l = m.konst in
    record { konst = omega (arith, k, l); coefs = λ j. each j }
  where
    each : (j : ℕ) → unsigned_abs (coef j (divided (pos d) s)) ≤ 2 ^ 122
    each j =
        let k = floor_small (coef j s) d h in
        let l = m.coefs j in
        rw (coef-divided (pos d) s j (omega (arith, ints))) (omega (arith, k, l))

-- the normal form of a form up to 2^122
left-moderate : (f : Affine) → IsFormUpTo2To122 f → IsFormUpTo2To122 (left_or f (normal_ge f))
left-moderate f m = by (content f.coefs == 0) (int_le (pos 0) f.konst) refl
  where
    by : (t u : Bool) → (content f.coefs == 0) ≡ t → IsFormUpTo2To122 (left_or f (cond t (cond u Dropped Absurd) (Kept (Ge (divided (pos (content f.coefs)) f)))))
    by true true e = m
    by true false e = m
    by false u e = let n = eqb-false _ _ e in normal-moderate (content f.coefs) f (omega (arith, n)) m

pub dark-moderate : (z : ℕ) (f g : Affine) → AreWithin2To120 (Ge f ∷ Ge g ∷ []) [] → pos 1 ≤ℤ coef z f → is_high z g ≡ true → IsFormUpTo2To122 (shadow_form (low_bound z f) (high_bound z g))
dark-moderate z f g m l k = subst IsFormUpTo2To122 (shadow-is z f g l (high-size (coef z g) k)) (shadow-moderate f g (neg_ℤ (coef z g)) (coef z f) (pos 0) (plain-pair z f g m l k))

-- what is left of a dark shadow
pub kept-moderate : (z : ℕ) (f g h : Affine) → AreWithin2To120 (Ge f ∷ Ge g ∷ []) [] → pos 1 ≤ℤ coef z f → is_high z g ≡ true → normal_ge (shadow_form (low_bound z f) (high_bound z g)) ≡ Kept (Ge h) → IsFormUpTo2To122 h
kept-moderate z f g h m l k e =
    let dark = shadow_form (low_bound z f) (high_bound z g) in
    subst (λ (x : NormalRow). IsFormUpTo2To122 (left_or dark x)) e (left-moderate dark (dark-moderate z f g m l k))

pub shown-moderate : (z : ℕ) (f g : Affine) (n : ℤ) → AreWithin2To120 (Ge f ∷ Ge g ∷ []) [] → pos 1 ≤ℤ coef z f → is_high z g ≡ true → IsFormUpTo2To122 (shown_form n (low_bound z f) (high_bound z g))
shown-moderate z f g n m l k = by (is_enough n (low_bound z f) (high_bound z g)) (is_same_left (normal_ge (shadow_form (low_bound z f) (high_bound z g))) (normal_ge (real_form (low_bound z f) (high_bound z g))))
  where
    dark : IsFormUpTo2To122 (shadow_form (low_bound z f) (high_bound z g))
    dark = dark-moderate z f g m l k

    by : (t u : Bool) → IsFormUpTo2To122 (cond t (shadow_form (low_bound z f) (high_bound z g)) (cond u (real_form (low_bound z f) (high_bound z g)) (left_or (shadow_form (low_bound z f) (high_bound z g)) (normal_ge (shadow_form (low_bound z f) (high_bound z g))))))
    by true u = dark
    by false true = subst IsFormUpTo2To122 (real-is z f g l k) (real-moderate f g (neg_ℤ (coef z g)) (coef z f) (pos 0) (plain-pair z f g m l k))
    by false false = left-moderate (shadow_form (low_bound z f) (high_bound z g)) dark

-- the normal form of a row up to 2^122 is made in `i128`
pub moderate-fits : (f : Affine) → IsFormUpTo2To122 f → normal_fits (Ge f) ≡ true
moderate-fits f m = (all_fit-is (absolutes f.coefs)).1 (each f.coefs m.coefs)
  where
    each : (cs : List ℤ) → ((j : ℕ) → unsigned_abs (get_or cs j (pos 0)) ≤ 2 ^ 122) → AllFit (absolutes cs)
    each [] h = tt
    each (c ∷ cs) h = (fits_within (pos (unsigned_abs c)) (let l = h 0 in omega (arith, l)), each cs (λ j. h (suc j)))

-- ---- the test of a pair

plus-zero : (x : ℤ) → x +ℤ pos 0 ≡ x
plus-zero x = omega (arith, ints)

zero-plus : (x : ℤ) → pos 0 +ℤ x ≡ x
zero-plus x = omega (arith, ints)

cleared-fits : (k l : ℤ) (xs ys : List ℤ) (z j : ℕ) → MixFits k (get_or xs j (pos 0)) l (get_or ys j (pos 0)) → MixFits k (get_or (set xs z (pos 0)) j (pos 0)) l (get_or (set ys z (pos 0)) j (pos 0))
cleared-fits k l xs ys z j h =
    elim (cleared xs z j) [
      | inl a ↦ elim (cleared ys z j) [
        | inl b ↦ rw (a, b) h
        | inr b ↦ rw (a, b.0) (first k l _ _ h)
      ]
      | inr a ↦ elim (cleared ys z j) [
        | inl b ↦ rw (a.0, b) (second k l _ _ h)
        | inr b ↦ rw (a.0, b.0) (none_fits k l)
      ]
    ]
  where
    first : (k l x y : ℤ) → MixFits k x l y → MixFits k x l (pos 0)
    first k l x y h = rw (times_zero l, plus-zero (k *ℤ x)) (h.0, fits-zero, h.0)

    second : (k l x y : ℤ) → MixFits k x l y → MixFits k (pos 0) l y
    second k l x y h = rw (times_zero k, zero-plus (l *ℤ y)) (fits-zero, h.1, h.1)

both : (a b : Bool) → a ≡ true → b ≡ true → (a && b) ≡ true
both true b e h = h
both false b e h = absurd cc

can-test : (k : ℤ) (f : Affine) (l : ℤ) (g : Affine) → CanCombine k f l g → can_combine k f l g ≡ true
can-test k f l g h =
    both (all_fit (mix_numbers k f.coefs l g.coefs)) _ ((all_fit-is (mix_numbers k f.coefs l g.coefs)).1 h.0)
    (both (fits (k *ℤ f.konst)) _ (fits_true _ h.1.0) (both (fits (l *ℤ g.konst)) (fits (k *ℤ f.konst +ℤ l *ℤ g.konst)) (fits_true _ h.1.1) (fits_true _ h.1.2)))

-- where the rows are within 2^120, the test of a pair stays in `i128`
pub pair-fits : (z : ℕ) (f g : Affine) → AreWithin2To120 (Ge f ∷ Ge g ∷ []) [] → pos 1 ≤ℤ coef z f → is_high z g ≡ true → pair_fits (low_bound z f) (high_bound z g) ≡ true
pair-fits z f g m l k =
    let a = neg_ℤ (coef z g) in
    let b = coef z f in
    let p = plain-pair z f g m l k in
    let h = pair-blends f g a b (pos 0) p in
    let blends : Blends a (without z f) b (without z g) = record { konst = h.konst; coefs = λ j. cleared-fits a b f.coefs g.coefs z j (h.coefs j) } in
    let sum = can-test a (without z f) b (without z g) (blends-can a (without z f) b (without z g) blends) in
    let lost : fits (dark_gap a b) ≡ true = fits_true (dark_gap a b) (dark_gap-fits f g a b (pos 0) p) in
    let dark : fits (a *ℤ f.konst +ℤ b *ℤ g.konst -ℤ dark_gap a b) ≡ true = fits_true _ (shadow-fits f g a b (pos 0) p) in
    both (fits a) _ (fits_true a (size-fits z f g m))
    (both (shadow_fits (low_bound z f) (high_bound z g)) (normal_fits (Ge (shadow_form (low_bound z f) (high_bound z g))))
    (both (can_combine a (without z f) b (without z g)) _ sum (both (fits (dark_gap a b)) _ lost dark))
    (moderate-fits (shadow_form (low_bound z f) (high_bound z g)) (dark-moderate z f g m l k)))

-- ---- rows that imply one up to 2^122

-- a row that was read
pub row-is : (rows : List Row) (i : ℕ) (r s : Row) → i < length rows → r ≡ get_or rows i r → get_or rows i r ≡ s → slice_get rows i ≡ Some s
row-is rows i r s l e f = slice_get_read rows (length rows) i r refl l e ∙ ap (λ (x : Row). Some x) (e ∙ f)

within-at : (p q : ℕ) (rows : List Row) (i : ℕ) (r : Row) → AreRowsWithin p q rows → slice_get rows i ≡ Some r → IsRowWithin p q r
within-at p q [] i r w e = absurd cc
within-at p q (x ∷ rows) zero r w e = let is : x ≡ r = cc in subst (IsRowWithin p q) is w.0
within-at p q (x ∷ rows) (suc i) r w e = within-at p q rows i r w.1 e

ones-fit : (x y : ℤ) → unsigned_abs x ≤ 2 ^ 120 → unsigned_abs y ≤ 2 ^ 120 → MixFits (pos 1) x (pos 1) y
ones-fit x y h k =
    let a = once_small x in
    let b = once_small y in
    let s = sum_size (pos 1 *ℤ x) (pos 1 *ℤ y) in
    (fits_within _ (omega arith), fits_within _ (omega arith), fits_within _ (omega arith))

ones-size : (x y : ℤ) → unsigned_abs x ≤ 2 ^ 120 → unsigned_abs y ≤ 2 ^ 120 → unsigned_abs (pos 1 *ℤ x +ℤ pos 1 *ℤ y) ≤ 2 ^ 121
ones-size x y h k =
    let a = once_small x in
    let b = once_small y in
    let s = sum_size (pos 1 *ℤ x) (pos 1 *ℤ y) in
    omega arith

-- beside a row that has the column, the numbers of each are at most 2^120
row-small : (z i : ℕ) (low f : Affine) (rows : List Row) → AreWithin2To120 (Ge low ∷ rows) [] → pos 1 ≤ℤ coef z low → slice_get rows i ≡ Some (Ge f) → (unsigned_abs f.konst ≤ 2 ^ 120) × ((j : ℕ) → unsigned_abs (coef j f) ≤ 2 ^ 120)
row-small z i low f rows m l e =
    let few = number_small m.factor m.number z low m.product m.rows.0 (λ n. omega (arith, ints, l, n)) in
    let w : IsFormWithin m.factor m.number f = within-at m.factor m.number rows i (Ge f) m.rows.1 e in
    (let k = w.konst in omega (arith, k, few), λ j. let k = w.coefs j in omega (arith, k, few))

-- one row, raised to one up to 2^122
pub one-fits : (z i : ℕ) (low f g : Affine) (rows : List Row) → AreWithin2To120 (Ge low ∷ rows) [] → pos 1 ≤ℤ coef z low → slice_get rows i ≡ Some (Ge f) → IsFormUpTo2To122 g → CanRaise f (g.konst -ℤ f.konst)
one-fits z i low f g rows m l e r =
    let w = row-small z i low f rows m l e in
    let k = w.0 in
    let s = less_size g.konst f.konst in
    let t = r.konst in
    let more : unsigned_abs (g.konst -ℤ f.konst) ≤ 2 ^ 123 = omega (arith, k, s, t) in
    record {
      konst = fits_within _ (omega (arith, k));
      number = fits_within _ (omega (arith, more));
      sum = fits_within _ (omega (arith, sum_size f.konst (g.konst -ℤ f.konst), more, k));
      coefs = λ j. let c = w.1 j in fits_within _ (omega (arith, c));
    }

-- the sum of two rows, raised to one up to 2^122
pub two-blend : (z i j : ℕ) (low f h : Affine) (rows : List Row) → AreWithin2To120 (Ge low ∷ rows) [] → pos 1 ≤ℤ coef z low → slice_get rows i ≡ Some (Ge f) → slice_get rows j ≡ Some (Ge h) → Blends (pos 1) f (pos 1) h
two-blend z i j low f h rows m l e d =
    let v = row-small z i low f rows m l e in
    let w = row-small z j low h rows m l d in
    record { konst = ones-fit f.konst h.konst v.0 w.0; coefs = λ c. ones-fit (coef c f) (coef c h) (v.1 c) (w.1 c) }

pub two-fit : (z i j : ℕ) (low f h g : Affine) (rows : List Row) → AreWithin2To120 (Ge low ∷ rows) [] → pos 1 ≤ℤ coef z low → slice_get rows i ≡ Some (Ge f) → slice_get rows j ≡ Some (Ge h) → IsFormUpTo2To122 g
    → CanRaise (combined (pos 1) f (pos 1) h) (g.konst -ℤ (f.konst +ℤ h.konst))
two-fit z i j low f h g rows m l e d r =
    let v = row-small z i low f rows m l e in
    let w = row-small z j low h rows m l d in
    let fk = v.0 in
    let hk = w.0 in
    let k = r.konst in
    let sum = ones-size f.konst h.konst fk hk in
    let s = less_size g.konst (f.konst +ℤ h.konst) in
    let t = sum_size f.konst h.konst in
    let more : unsigned_abs (g.konst -ℤ (f.konst +ℤ h.konst)) ≤ 2 ^ 123 = omega (arith, s, t, k, fk, hk) in
    record {
      konst = fits_within _ (omega (arith, sum));
      number = fits_within _ (omega (arith, more));
      sum = fits_within _ (omega (arith, sum_size (pos 1 *ℤ f.konst +ℤ pos 1 *ℤ h.konst) (g.konst -ℤ (f.konst +ℤ h.konst)), sum, more));
      coefs = λ c. rw (get_or-mix (pos 1) f.coefs (pos 1) h.coefs c) (fits_within _ (omega (arith, ones-size (coef c f) (coef c h) (v.1 c) (w.1 c))));
    }
