-- The bounds of a column among rows of differences: their sizes are 1, and their shadows are sums in which the column goes.
use Rattle.std.proofs.Common.{◌≡◌, inl, inr, ℕ, zero, suc, ◌+◌, nat_eq, cond, Bool, true, false, not, ℤ, pos, negsuc, ◌+ℤ◌, ◌-ℤ◌, ◌*ℤ◌, neg_ℤ, List, [], ◌∷◌, set, get_or, arith, refl, ap, sym, subst, ◌∙◌}
use Rattle.std.specs.Int.Signed.{lt_z}
use Rattle.std.proofs.lemmas.Int.{ints}
use borrow.Author.Tests.{eqb-true, eqb-false}
use Rattle.ac_forms.specs.Affine.{Affine, coef, combined}
use Rattle.ac_forms.specs.Rows.{form_of}
use Rattle.ac_forms.specs.declared.row.Row.{Row}
use Rattle.ac_forms.specs.declared.row.Row.TheVariants.{Eq, Div, Ge}
use Rattle.ac_omega_steps.specs.declared.column.Bound.{Bound}
use Rattle.ac_omega_steps.specs.Bounds.{without, is_low, is_high, low_bound, high_bound, lows, highs, rows_without}
use Rattle.ac_forms.specs.RowColumns.{has_column}
use Rattle.ac_omega_steps.specs.Choices.{shadow_form, shadows_with, shadows}
use Rattle.ac_omega_steps.proofs.OneColumn.{coef-combined, has-not, coef-without}
use Rattle.ac_omega.proofs.DifferenceForms.{IsUnit, unit-at}
use Rattle.ac_omega.proofs.DifferenceRows.{IsOver, IsRow, IsRaw, Each}
use Rattle.ac_omega.proofs.DifferenceChoices.{leave, plus-over, free-over, each-append}

-- rows without the column
free-row : (vars : List ℕ) (b z : ℕ) (r : Row) → IsRow vars b r → coef z (form_of r) ≡ pos 0 → IsRaw (leave z vars) (b + b) r
free-row vars b z (Eq f) h e = free-over vars b z f f h.0 (λ j. refl) refl e
free-row vars b z (Div m f) h e = absurd h
free-row vars b z (Ge f) h e = free-over vars b z f f h.0 (λ j. refl) refl e

pub each-free : (vars : List ℕ) (b z : ℕ) (rs : List Row) → Each (IsRow vars b) rs → Each (IsRaw (leave z vars) (b + b)) (rows_without z rs)
each-free vars b z [] h = tt
each-free vars b z (r ∷ rs) h = by (has_column z r) (has-not z r) (each-free vars b z rs h.1)
  where
    by : (t : Bool) → (not t ≡ true → coef z (form_of r) ≡ pos 0) → Each (IsRaw (leave z vars) (b + b)) (rows_without z rs) → Each (IsRaw (leave z vars) (b + b)) (cond t (rows_without z rs) (r ∷ rows_without z rs))
    by true e f = f
    by false e f = (free-row vars b z r h.0 (e refl), f)

-- what a bound comes from
pub record IsBound (vars : List ℕ) (b z : ℕ) (c : ℤ) (d : Bound) : Type 0 where
  pub form : Affine
  pub over : IsOver vars b form
  pub at : coef z form ≡ c
  pub size : d.size ≡ pos 1
  pub rest : d.rest ≡ without z form

abbrev pub EachBound : (Bound → Type 0) → List Bound → Type 0
EachBound P [] = Unit {0}
EachBound P (d ∷ ds) = P d × EachBound P ds

pub low-one : (c : ℤ) → IsUnit c → lt_z (pos 0) c ≡ true → c ≡ pos 1
low-one c (inl e) l = e
low-one c (inr (inl e)) l = absurd (let m = rw e at l in cc)
low-one c (inr (inr e)) l = absurd (let m = rw e at l in cc)

pub high-one : (c : ℤ) → IsUnit c → lt_z c (pos 0) ≡ true → c ≡ negsuc 0
high-one c (inl e) l = absurd (let m = rw e at l in cc)
high-one c (inr (inl e)) l = absurd (let m = rw e at l in cc)
high-one c (inr (inr e)) l = e

pub each-low : (vars : List ℕ) (b z : ℕ) (rs : List Row) → Each (IsRow vars b) rs → EachBound (IsBound vars b z (pos 1)) (lows z rs)
each-low vars b z [] h = tt
each-low vars b z (Eq f ∷ rs) h = each-low vars b z rs h.1
each-low vars b z (Div m f ∷ rs) h = absurd h.0
each-low vars b z (Ge f ∷ rs) h = by (is_low z f) refl (each-low vars b z rs h.1)
  where
    by : (t : Bool) → is_low z f ≡ t → EachBound (IsBound vars b z (pos 1)) (lows z rs) → EachBound (IsBound vars b z (pos 1)) (cond t (low_bound z f ∷ lows z rs) (lows z rs))
    by true e g = let o = low-one (coef z f) (unit-at (λ j. coef j f) h.0.0.difference z) e in (record { form = f; over = h.0.0; at = o; size = o; rest = refl }, g)
    by false e g = g

pub each-high : (vars : List ℕ) (b z : ℕ) (rs : List Row) → Each (IsRow vars b) rs → EachBound (IsBound vars b z (negsuc 0)) (highs z rs)
each-high vars b z [] h = tt
each-high vars b z (Eq f ∷ rs) h = each-high vars b z rs h.1
each-high vars b z (Div m f ∷ rs) h = absurd h.0
each-high vars b z (Ge f ∷ rs) h = by (is_high z f) refl (each-high vars b z rs h.1)
  where
    by : (t : Bool) → is_high z f ≡ t → EachBound (IsBound vars b z (negsuc 0)) (highs z rs) → EachBound (IsBound vars b z (negsuc 0)) (cond t (high_bound z f ∷ highs z rs) (highs z rs))
    by true e g = let o = high-one (coef z f) (unit-at (λ j. coef j f) h.0.0.difference z) e in (record { form = f; over = h.0.0; at = o; size = ap (λ (x : ℤ). neg_ℤ x) o; rest = refl }, g)
    by false e g = g

-- one coefficient of a form without a column
set-other : (cs : List ℤ) (z j : ℕ) → (z ≡ j → ⊥) → get_or (set cs z (pos 0)) j (pos 0) ≡ get_or cs j (pos 0)
set-other [] zero j n = refl
set-other [] (suc z) j n = refl
set-other (c ∷ cs) zero zero n = absurd (n refl)
set-other (c ∷ cs) zero (suc j) n = refl
set-other (c ∷ cs) (suc z) zero n = refl
set-other (c ∷ cs) (suc z) (suc j) n = set-other cs z j (λ e. n (ap suc e))

sum-zero : (x y c d : ℤ) → x ≡ pos 0 → y ≡ pos 0 → c ≡ pos 1 → d ≡ negsuc 0 → pos 1 *ℤ x +ℤ pos 1 *ℤ y ≡ c +ℤ d
sum-zero x y c d e f g h = omega (arith, ints)

sum-same : (x y c d : ℤ) → x ≡ c → y ≡ d → pos 1 *ℤ x +ℤ pos 1 *ℤ y ≡ c +ℤ d
sum-same x y c d e f = omega (arith, ints)

pub shadow-coef : (z j : ℕ) (f g : Affine) → coef z f ≡ pos 1 → coef z g ≡ negsuc 0 → coef j (combined (pos 1) (without z f) (pos 1) (without z g)) ≡ coef j f +ℤ coef j g
shadow-coef z j f g e d = coef-combined j (pos 1) (without z f) (pos 1) (without z g) ∙ by (nat_eq z j) refl
  where
    by : (t : Bool) → nat_eq z j ≡ t → pos 1 *ℤ coef j (without z f) +ℤ pos 1 *ℤ coef j (without z g) ≡ coef j f +ℤ coef j g
    by true s =
        let at : (i : ℕ) → z ≡ i → pos 1 *ℤ coef i (without z f) +ℤ pos 1 *ℤ coef i (without z g) ≡ coef i f +ℤ coef i g = λ i q.
        subst (λ (i : ℕ). pos 1 *ℤ coef i (without z f) +ℤ pos 1 *ℤ coef i (without z g) ≡ coef i f +ℤ coef i g) q (sum-zero _ _ (coef z f) (coef z g) (coef-without z f) (coef-without z g) e d) in
        at j (eqb-true z j s)
    by false s = sum-same _ _ (coef j f) (coef j g) (set-other f.coefs z j (eqb-false z j s)) (set-other g.coefs z j (eqb-false z j s))

-- the shadow of bounds with these sizes and rests
abbrev pub shadow_at : ℤ → Affine → ℤ → Affine → Affine
shadow_at l f h g = record { konst = (combined h f l g).konst -ℤ (h -ℤ pos 1) *ℤ (l -ℤ pos 1); coefs = (combined h f l g).coefs }

shadow-konst : (x y : ℤ) → (pos 1 *ℤ x +ℤ pos 1 *ℤ y) -ℤ (pos 1 -ℤ pos 1) *ℤ (pos 1 -ℤ pos 1) ≡ x +ℤ y
shadow-konst x y = omega (arith, ints)

shadow-one : (vars : List ℕ) (b z : ℕ) (f g : Affine) → IsOver vars b f → IsOver vars b g → coef z f ≡ pos 1 → coef z g ≡ negsuc 0 → IsOver (leave z vars) (b + b) (shadow_at (pos 1) (without z f) (pos 1) (without z g))
shadow-one vars b z f g p q e d =
    plus-over vars b z f g (shadow_at (pos 1) (without z f) (pos 1) (without z g)) p q (λ j. shadow-coef z j f g e d) (shadow-konst f.konst g.konst) e d

pub shadow-over : (vars : List ℕ) (b z : ℕ) (low high : Bound) → IsBound vars b z (pos 1) low → IsBound vars b z (negsuc 0) high → IsOver (leave z vars) (b + b) (shadow_form low high)
shadow-over vars b z low high l h =
    let P : Affine → Type 0 = IsOver (leave z vars) (b + b) in
    let o = shadow-one vars b z l.form h.form l.over h.over l.at h.at in
    let o1 = subst (λ (g : Affine). P (shadow_at (pos 1) (without z l.form) (pos 1) g)) (sym h.rest) o in
    let o2 = subst (λ (f : Affine). P (shadow_at (pos 1) f (pos 1) high.rest)) (sym l.rest) o1 in
    let o3 = subst (λ (x : ℤ). P (shadow_at (pos 1) low.rest x high.rest)) (sym h.size) o2 in
    subst (λ (x : ℤ). P (shadow_at x low.rest high.size high.rest)) (sym l.size) o3

each-shadow_with : (vars : List ℕ) (b z : ℕ) (low : Bound) (hs : List Bound) → IsBound vars b z (pos 1) low → EachBound (IsBound vars b z (negsuc 0)) hs → Each (IsRaw (leave z vars) (b + b)) (shadows_with low hs)
each-shadow_with vars b z low [] l h = tt
each-shadow_with vars b z low (d ∷ ds) l h = (shadow-over vars b z low d l h.0, each-shadow_with vars b z low ds l h.1)

pub each-shadow : (vars : List ℕ) (b z : ℕ) (ls hs : List Bound) → EachBound (IsBound vars b z (pos 1)) ls → EachBound (IsBound vars b z (negsuc 0)) hs → Each (IsRaw (leave z vars) (b + b)) (shadows ls hs)
each-shadow vars b z [] hs l h = tt
each-shadow vars b z (d ∷ ds) hs l h = each-append (IsRaw (leave z vars) (b + b)) (shadows_with d hs) (shadows ds hs) (each-shadow_with vars b z d hs l.0 h) (each-shadow vars b z ds hs l.1 h)
