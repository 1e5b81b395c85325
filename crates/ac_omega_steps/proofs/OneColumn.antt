-- Points that differ in one column: what forms and rows are worth there.
use Rattle.std.proofs.Common.{◌≡◌, ◌↔◌, ℕ, zero, suc, ◌<◌, ℤ, pos, ◌+ℤ◌, ◌*ℤ◌, Bool, true, false, not, List, [], ◌∷◌, ◌++◌, length, get_or, set, slice_get, Some, arith, refl, sym, subst}
use Rattle.std.specs.Ordering.{int_eq}
use Rattle.std.proofs.lemmas.Bool.Decides.{Decides-int_eq}
use Rattle.std.proofs.lemmas.Int.{ints}
use Rattle.ac_base.proofs.Columns.{dot-split, dot-free, get_or-mix}
use Rattle.ac_forms.specs.Affine.{Affine, coef, combined, value_at}
use Rattle.ac_forms.specs.Rows.{form_of, Holds, Meets}
use Rattle.ac_forms.specs.declared.row.Row.{Row}
use Rattle.ac_forms.specs.declared.row.Row.TheVariants.{Eq, Div, Ge}
use Rattle.ac_omega_steps.specs.Bounds.{without}
use Rattle.ac_forms.specs.RowColumns.{has_column}
use Rattle.ac_omega_steps.specs.Choices.{rest_at, others}

-- the column's own product taken out
pub value-split : (f : Affine) (p : List ℤ) (z : ℕ) (v : ℤ) → z < length p → value_at f (set p z v) ≡ coef z f *ℤ v +ℤ value_at (without z f) p
value-split f p z v h = let e = dot-split f.coefs p z v h in omega (arith, ints, e)

-- the form without the column is worth what the form is where the column is 0
pub value-rest : (f : Affine) (p : List ℤ) (z : ℕ) → z < length p → rest_at z f p ≡ value_at (without z f) p
value-rest f p z h = let e = value-split f p z (pos 0) h in omega (arith, ints, e)

-- a form without the column has one value
pub value-free : (f : Affine) (p : List ℤ) (z : ℕ) (v : ℤ) → z < length p → coef z f ≡ pos 0 → value_at f (set p z v) ≡ value_at f p
value-free f p z v h e =
    let s = rw e at (value-split f p z v h) in
    let d = dot-free f.coefs p z e in
    omega (arith, ints, s, d)

-- no row has the column
abbrev pub AreFree : ℕ → List Row → Type 0
AreFree z [] = Unit {0}
AreFree z (r ∷ rs) = (coef z (form_of r) ≡ pos 0) × AreFree z rs

pub holds-free : (r : Row) (p : List ℤ) (z : ℕ) (v : ℤ) → z < length p → coef z (form_of r) ≡ pos 0 → Holds r (set p z v) ↔ Holds r p
holds-free (Ge f) p z v l e = rw (value-free f p z v l e) ((λ h. h), (λ h. h))
holds-free (Eq f) p z v l e = rw (value-free f p z v l e) ((λ h. h), (λ h. h))
holds-free (Div m f) p z v l e = rw (value-free f p z v l e) ((λ h. h), (λ h. h))

pub meets-free : (rs : List Row) (p : List ℤ) (z : ℕ) (v : ℤ) → z < length p → AreFree z rs → Meets rs (set p z v) ↔ Meets rs p
meets-free [] p z v l e = ((λ h. h), (λ h. h))
meets-free (r ∷ rs) p z v l e =
    let a = holds-free r p z v l e.0 in
    let b = meets-free rs p z v l e.1 in
    ((λ h. (a.0 h.0, b.0 h.1)), (λ h. (a.1 h.0, b.1 h.1)))

pub free-append : (z : ℕ) (rs ss : List Row) → AreFree z rs → AreFree z ss → AreFree z (rs ++ ss)
free-append z [] ss e f = f
free-append z (r ∷ rs) ss e f = (e.0, free-append z rs ss e.1 f)

-- rows in two parts
pub meets-both : (rs ss : List Row) (p : List ℤ) → Meets rs p → Meets ss p → Meets (rs ++ ss) p
meets-both [] ss p h g = g
meets-both (r ∷ rs) ss p h g = (h.0, meets-both rs ss p h.1 g)

pub meets-first : (rs ss : List Row) (p : List ℤ) → Meets (rs ++ ss) p → Meets rs p
meets-first [] ss p h = tt
meets-first (r ∷ rs) ss p h = (h.0, meets-first rs ss p h.1)

pub meets-second : (rs ss : List Row) (p : List ℤ) → Meets (rs ++ ss) p → Meets ss p
meets-second [] ss p h = h
meets-second (r ∷ rs) ss p h = meets-second rs ss p h.1

-- all rows but one, and that one
pub meets-others : (rows : List Row) (i : ℕ) (p : List ℤ) → Meets rows p → Meets (others i rows) p
meets-others [] zero p h = tt
meets-others [] (suc i) p h = tt
meets-others (r ∷ rows) zero p h = h.1
meets-others (r ∷ rows) (suc i) p h = (h.0, meets-others rows i p h.1)

pub others-meet : (rows : List Row) (i : ℕ) (r : Row) (p : List ℤ) → slice_get rows i ≡ Some r → Holds r p → Meets (others i rows) p → Meets rows p
others-meet [] i r p e g h = absurd cc
others-meet (s ∷ rows) zero r p e g h = (subst (λ (x : Row). Holds x p) (sym (row-is s r e)) g, h)
  where
    row-is : (s r : Row) → Some s ≡ Some r → s ≡ r
    row-is s r e = cc
others-meet (s ∷ rows) (suc i) r p e g h = (h.0, others-meet rows i r p e g h.1)

-- one coefficient of a form without the column, and of a combination
pub get_or-cleared : (cs : List ℤ) (z : ℕ) → get_or (set cs z (pos 0)) z (pos 0) ≡ pos 0
get_or-cleared [] zero = refl
get_or-cleared [] (suc z) = refl
get_or-cleared (c ∷ cs) zero = refl
get_or-cleared (c ∷ cs) (suc z) = get_or-cleared cs z

pub coef-without : (z : ℕ) (f : Affine) → coef z (without z f) ≡ pos 0
coef-without z f = get_or-cleared f.coefs z

pub coef-combined : (z : ℕ) (k : ℤ) (f : Affine) (l : ℤ) (g : Affine) → coef z (combined k f l g) ≡ k *ℤ coef z f +ℤ l *ℤ coef z g
coef-combined z k f l g = get_or-mix k f.coefs l g.coefs z

-- a row that has not the column
pub has-not : (z : ℕ) (r : Row) → not (has_column z r) ≡ true → coef z (form_of r) ≡ pos 0
has-not z r e = (Decides-int_eq (coef z (form_of r)) (pos 0)).0 (twice (int_eq (coef z (form_of r)) (pos 0)) e)
  where
    twice : (b : Bool) → not (not b) ≡ true → b ≡ true
    twice true e = refl
    twice false e = absurd cc
