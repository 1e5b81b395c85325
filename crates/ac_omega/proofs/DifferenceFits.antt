-- The numbers of the choices for a column of rows of differences stay in `i128`.
use Rattle.std.proofs.Common.{◌≡◌, inl, inr, ℕ, zero, suc, ◌+◌, ◌<◌, ◌≤◌, ◌^◌, lit<, Bool, true, ◌&&◌, ℤ, pos, negsuc, ◌+ℤ◌, ◌-ℤ◌, ◌*ℤ◌, neg_ℤ, List, [], ◌∷◌, set, Some, arith, refl, sym, subst}
use Rattle.std.specs.Prelude.{unsigned_abs}
use Rattle.std.proofs.lemmas.Int.{ints}
use Rattle.ac_forms.specs.Affine.{Affine, coef, combined, mix_numbers}
use Rattle.ac_forms.specs.Fits.{fits, all_fit}
use Rattle.ac_forms.specs.RangeTests.{can_combine}
use Rattle.ac_forms.specs.declared.row.Row.{Row}
use Rattle.ac_forms.specs.declared.row.Row.TheVariants.{Eq, Div, Ge}
use Rattle.ac_omega_steps.specs.declared.column.Bound.{Bound}
use Rattle.ac_omega_steps.specs.Bounds.{without}
use Rattle.ac_omega_steps.specs.Choices.{size_of, against, others}
use Rattle.ac_omega_steps.specs.ChoiceFits.{replaced_fits, all_replaced_fit, equality_fits, sizes_fit, shadow_fits, shadows_fit_with, shadows_fit}
use Rattle.ac_omega.proofs.DifferenceForms.{IsUnit, unit-at}
use Rattle.ac_omega.proofs.DifferenceRows.{IsOver, IsRow, Each, AreUnits, form-units}
use Rattle.ac_omega.proofs.DifferenceNormals.{fits-within, both-true}
use Rattle.ac_omega.proofs.DifferenceChoices.{IsSign, sign-size, each-others}
use Rattle.ac_omega.proofs.DifferenceShadows.{IsBound, EachBound}

product-small : (k x : ℤ) → IsUnit k → unsigned_abs (k *ℤ x) ≤ unsigned_abs x
product-small k x (inl e) = rw e (omega (arith, ints))
product-small k x (inr (inl e)) = rw e (omega (arith, ints))
product-small k x (inr (inr e)) = rw e (omega (arith, ints))

pub unit-small : (x : ℤ) → IsUnit x → unsigned_abs x ≤ 1
unit-small x (inl e) = rw e (omega arith)
unit-small x (inr (inl e)) = rw e (omega arith)
unit-small x (inr (inr e)) = rw e (omega arith)

sum-small : (x y : ℤ) (b : ℕ) → unsigned_abs x ≤ b → unsigned_abs y ≤ b → unsigned_abs (x +ℤ y) ≤ b + b
sum-small x y b h g = omega (arith, ints)

-- the products and the sum of a combination of two numbers
pub record MixesFit (k x l y : ℤ) : Type 0 where
  pub first : fits (k *ℤ x) ≡ true
  pub second : fits (l *ℤ y) ≡ true
  pub sum : fits (k *ℤ x +ℤ l *ℤ y) ≡ true

mixes-fit : (k x l y : ℤ) (b : ℕ) → IsUnit k → IsUnit l → unsigned_abs x ≤ b → unsigned_abs y ≤ b → b + b < 2 ^ 127 → MixesFit k x l y
mixes-fit k x l y b uk ul h g room =
    let a : unsigned_abs (k *ℤ x) ≤ b = omega (arith, product-small k x uk) in
    let c : unsigned_abs (l *ℤ y) ≤ b = omega (arith, product-small l y ul) in
    let r : b < 2 ^ 127 = omega arith in
    record { first = fits-within (k *ℤ x) b a r; second = fits-within (l *ℤ y) b c r; sum = fits-within (k *ℤ x +ℤ l *ℤ y) (b + b) (sum-small (k *ℤ x) (l *ℤ y) b a c) room }

mix-fit : (k l : ℤ) (xs ys : List ℤ) → IsUnit k → IsUnit l → AreUnits xs → AreUnits ys → all_fit (mix_numbers k xs l ys) ≡ true
mix-fit k l [] [] uk ul u v = refl
mix-fit k l [] (y ∷ ys) uk ul u v = let m = mixes-fit k y l y 1 uk ul (unit-small y v.0) (unit-small y v.0) (lit< tt) in rw (m.second) (mix-fit k l [] ys uk ul u v.1)
mix-fit k l (x ∷ xs) [] uk ul u v = let m = mixes-fit k x l x 1 uk ul (unit-small x u.0) (unit-small x u.0) (lit< tt) in rw (m.first) (mix-fit k l xs [] uk ul u.1 v)
mix-fit k l (x ∷ xs) (y ∷ ys) uk ul u v = let m = mixes-fit k x l y 1 uk ul (unit-small x u.0) (unit-small y v.0) (lit< tt) in rw (m.first, m.second, m.sum) (mix-fit k l xs ys uk ul u.1 v.1)

combine-fit : (b : ℕ) (k l : ℤ) (f g : Affine) → IsUnit k → IsUnit l → AreUnits f.coefs → AreUnits g.coefs → unsigned_abs f.konst ≤ b → unsigned_abs g.konst ≤ b → b + b < 2 ^ 127 → can_combine k f l g ≡ true
combine-fit b k l f g uk ul u v h i room =
    let m = mixes-fit k f.konst l g.konst b uk ul h i room in
    rw (mix-fit k l f.coefs g.coefs uk ul u v, m.first, m.second, m.sum) refl

-- by an equality
neg-unit : (d : ℤ) → IsUnit d → IsUnit (neg_ℤ d)
neg-unit d (inl e) = inr (inr (rw e refl))
neg-unit d (inr (inl e)) = inr (inl (rw e refl))
neg-unit d (inr (inr e)) = inl (rw e refl)

against-unit : (c d : ℤ) → IsSign c → IsUnit d → IsUnit (against c d)
against-unit c d (inl e) u = subst (λ (x : ℤ). IsUnit (against x d)) (sym e) (neg-unit d u)
against-unit c d (inr e) u = subst (λ (x : ℤ). IsUnit (against x d)) (sym e) u

unit-fit : (c : ℤ) → IsUnit c → fits c ≡ true
unit-fit c u = fits-within c 1 (unit-small c u) (lit< tt)

replaced-fit : (vars : List ℕ) (b z : ℕ) (f g : Affine) → b + b < 2 ^ 127 → IsOver vars b f → IsOver vars b g → IsSign (coef z g) → replaced_fits z g f ≡ true
replaced-fit vars b z f g room p q s =
    let u = against-unit (coef z g) (coef z f) s (unit-at (λ j. coef j f) p.difference z) in
    both-true (fits (against (coef z g) (coef z f))) (can_combine (size_of (coef z g)) f (against (coef z g) (coef z f)) g) (unit-fit (against (coef z g) (coef z f)) u)
    (combine-fit b (size_of (coef z g)) (against (coef z g) (coef z f)) f g (inl (sign-size (coef z g) s)) u (form-units vars b f p) (form-units vars b g q) p.small q.small room)

all-replaced-fit : (vars : List ℕ) (b z : ℕ) (g : Affine) (rs : List Row) → b + b < 2 ^ 127 → IsOver vars b g → IsSign (coef z g) → Each (IsRow vars b) rs → all_replaced_fit z g rs ≡ true
all-replaced-fit vars b z g [] room q s h = refl
all-replaced-fit vars b z g (Eq f ∷ rs) room q s h = both-true (replaced_fits z g f) (all_replaced_fit z g rs) (replaced-fit vars b z f g room h.0.0 q s) (all-replaced-fit vars b z g rs room q s h.1)
all-replaced-fit vars b z g (Div m f ∷ rs) room q s h = absurd h.0
all-replaced-fit vars b z g (Ge f ∷ rs) room q s h = both-true (replaced_fits z g f) (all_replaced_fit z g rs) (replaced-fit vars b z f g room h.0.0 q s) (all-replaced-fit vars b z g rs room q s h.1)

pub equality-fit : (vars : List ℕ) (b z i : ℕ) (g : Affine) (rs : List Row) → b + b < 2 ^ 127 → IsOver vars b g → IsSign (coef z g) → Each (IsRow vars b) rs → equality_fits z i (Some (Eq g)) rs ≡ true
equality-fit vars b z i g rs room q s h =
    both-true (fits (size_of (coef z g))) (all_replaced_fit z g (others i rs)) (unit-fit (size_of (coef z g)) (inl (sign-size (coef z g) s))) (all-replaced-fit vars b z g (others i rs) room q s (each-others (IsRow vars b) i rs h))

-- by shadows
set-units : (cs : List ℤ) (z : ℕ) → AreUnits cs → AreUnits (set cs z (pos 0))
set-units [] zero u = tt
set-units [] (suc z) u = tt
set-units (c ∷ cs) zero u = (inr (inl refl), u.1)
set-units (c ∷ cs) (suc z) u = (u.0, set-units cs z u.1)

pub sizes-fit : (vars : List ℕ) (b z : ℕ) (c : ℤ) (ds : List Bound) → EachBound (IsBound vars b z c) ds → sizes_fit ds ≡ true
sizes-fit vars b z c [] h = refl
sizes-fit vars b z c (d ∷ ds) h = both-true (fits d.size) (sizes_fit ds) (rw (h.0.size) refl) (sizes-fit vars b z c ds h.1)

abbrev shadow_fits_at : ℤ → Affine → ℤ → Affine → Bool
shadow_fits_at l f h g = can_combine h f l g && (fits ((h -ℤ pos 1) *ℤ (l -ℤ pos 1)) && fits ((combined h f l g).konst -ℤ (h -ℤ pos 1) *ℤ (l -ℤ pos 1)))

shadow-small : (x y : ℤ) (b : ℕ) → unsigned_abs x ≤ b → unsigned_abs y ≤ b → unsigned_abs ((pos 1 *ℤ x +ℤ pos 1 *ℤ y) -ℤ (pos 1 -ℤ pos 1) *ℤ (pos 1 -ℤ pos 1)) ≤ b + b
shadow-small x y b h g = omega (arith, ints)

shadow-fit-one : (vars : List ℕ) (b z : ℕ) (f g : Affine) → b + b < 2 ^ 127 → IsOver vars b f → IsOver vars b g → shadow_fits_at (pos 1) (without z f) (pos 1) (without z g) ≡ true
shadow-fit-one vars b z f g room p q =
    both-true (can_combine (pos 1) (without z f) (pos 1) (without z g)) _
    (combine-fit b (pos 1) (pos 1) (without z f) (without z g) (inl refl) (inl refl) (set-units f.coefs z (form-units vars b f p)) (set-units g.coefs z (form-units vars b g q)) p.small q.small room)
    (fits-within (pos 1 *ℤ f.konst +ℤ pos 1 *ℤ g.konst -ℤ (pos 1 -ℤ pos 1) *ℤ (pos 1 -ℤ pos 1)) (b + b) (shadow-small f.konst g.konst b p.small q.small) room)

pub shadow-fit : (vars : List ℕ) (b z : ℕ) (low high : Bound) → b + b < 2 ^ 127 → IsBound vars b z (pos 1) low → IsBound vars b z (negsuc 0) high → shadow_fits low high ≡ true
shadow-fit vars b z low high room l h =
    let o = shadow-fit-one vars b z l.form h.form room l.over h.over in
    let o1 = subst (λ (g : Affine). shadow_fits_at (pos 1) (without z l.form) (pos 1) g ≡ true) (sym h.rest) o in
    let o2 = subst (λ (f : Affine). shadow_fits_at (pos 1) f (pos 1) high.rest ≡ true) (sym l.rest) o1 in
    let o3 = subst (λ (x : ℤ). shadow_fits_at (pos 1) low.rest x high.rest ≡ true) (sym h.size) o2 in
    subst (λ (x : ℤ). shadow_fits_at x low.rest high.size high.rest ≡ true) (sym l.size) o3

shadows-fit-with : (vars : List ℕ) (b z : ℕ) (low : Bound) (hs : List Bound) → b + b < 2 ^ 127 → IsBound vars b z (pos 1) low → EachBound (IsBound vars b z (negsuc 0)) hs → shadows_fit_with low hs ≡ true
shadows-fit-with vars b z low [] room l h = refl
shadows-fit-with vars b z low (d ∷ ds) room l h = both-true (shadow_fits low d) (shadows_fit_with low ds) (shadow-fit vars b z low d room l h.0) (shadows-fit-with vars b z low ds room l h.1)

pub shadows-fit : (vars : List ℕ) (b z : ℕ) (ls hs : List Bound) → b + b < 2 ^ 127 → EachBound (IsBound vars b z (pos 1)) ls → EachBound (IsBound vars b z (negsuc 0)) hs → shadows_fit ls hs ≡ true
shadows-fit vars b z [] hs room l h = refl
shadows-fit vars b z (d ∷ ds) hs room l h = both-true (shadows_fit_with d hs) (shadows_fit ds hs) (shadows-fit-with vars b z d hs room l.0 h) (shadows-fit vars b z ds hs room l.1 h)
